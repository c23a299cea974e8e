-- The instruction table: the A64 encodings of the integer profile, one row a line, each from bit 31
-- down to bit 0 (DDI 0487, C4.1).
use Rattle.std.specs.Prelude.{ℕ, ◌==◌, if◌then◌else◌, List, [], ◌∷◌}
use Rattle.a64_inst.specs.declared.inst.Inst.{Inst}
use Rattle.a64_inst.specs.declared.inst.Inst.TheVariants.{AdrAdrp, AddSubImm, AddSubShifted, AddSubExtended, LogicalShifted, LogicalImm, MoveWide, Bitfield, Extr, TwoSources, OneSource, ThreeSources, WithCarry, CondCompare, CondSelect, BBl, BCond, CbzCbnz, TbzTbnz, BrBlrRet, SvcBrk, Udf, Hint, Literal, Scaled, UnscaledPostPre, Register, Pair}
use Rattle.a64_inst.specs.Parts.{Part, is, field, Fields}

-- the fields, as the manual names them
abbrev pub op : Part
op = field 1

abbrev pub lo : Part
lo = field 2

abbrev pub hi : Part
hi = field 19

abbrev pub rd : Part
rd = field 5

abbrev pub sf : Part
sf = field 1

abbrev pub s : Part
s = field 1

abbrev pub sh : Part
sh = field 1

abbrev pub imm12 : Part
imm12 = field 12

abbrev pub rn : Part
rn = field 5

abbrev pub shift : Part
shift = field 2

abbrev pub rm : Part
rm = field 5

abbrev pub imm6 : Part
imm6 = field 6

abbrev pub option : Part
option = field 3

abbrev pub imm3 : Part
imm3 = field 3

abbrev pub opc : Part
opc = field 2

abbrev pub n : Part
n = field 1

abbrev pub immr : Part
immr = field 6

abbrev pub imms : Part
imms = field 6

abbrev pub hw : Part
hw = field 2

abbrev pub imm16 : Part
imm16 = field 16

abbrev pub opcode : Part
opcode = field 6

abbrev pub op3 : Part
op3 = field 3

abbrev pub o0 : Part
o0 = field 1

abbrev pub ra : Part
ra = field 5

abbrev pub cond : Part
cond = field 4

abbrev pub i : Part
i = field 1

abbrev pub nzcv : Part
nzcv = field 4

abbrev pub o2 : Part
o2 = field 1

abbrev pub imm26 : Part
imm26 = field 26

abbrev pub imm19 : Part
imm19 = field 19

abbrev pub rt : Part
rt = field 5

abbrev pub b5 : Part
b5 = field 1

abbrev pub b40 : Part
b40 = field 5

abbrev pub imm14 : Part
imm14 = field 14

abbrev pub hint_number : Part
hint_number = field 7

abbrev pub size : Part
size = field 2

abbrev pub imm9 : Part
imm9 = field 9

abbrev pub idx : Part
idx = field 2

abbrev pub l : Part
l = field 1

abbrev pub imm7 : Part
imm7 = field 7

abbrev pub rt2 : Part
rt2 = field 5

-- a row: its parts, and its instruction as a function of its fields
pub record Row : Type 0 where
  pub parts : List Part
  pub inst : Fields parts Inst

-- ADR, ADRP.
abbrev pub adr_adrp : Row
adr_adrp = record { parts = op ∷ lo ∷ is 5 0b10000 ∷ hi ∷ rd ∷ []; inst = AdrAdrp }

-- ADD, ADDS, SUB and SUBS of an immediate.
abbrev pub add_sub_imm : Row
add_sub_imm = record { parts = sf ∷ op ∷ s ∷ is 6 0b100010 ∷ sh ∷ imm12 ∷ rn ∷ rd ∷ []; inst = AddSubImm }

-- ADD, ADDS, SUB and SUBS of a shifted register.
abbrev pub add_sub_shifted : Row
add_sub_shifted = record { parts = sf ∷ op ∷ s ∷ is 5 0b01011 ∷ shift ∷ is 1 0b0 ∷ rm ∷ imm6 ∷ rn ∷ rd ∷ []; inst = AddSubShifted }

-- ADD, ADDS, SUB and SUBS of an extended register.
abbrev pub add_sub_extended : Row
add_sub_extended = record { parts = sf ∷ op ∷ s ∷ is 8 0b01011001 ∷ rm ∷ option ∷ imm3 ∷ rn ∷ rd ∷ []; inst = AddSubExtended }

-- AND, BIC, ORR, ORN, EOR, EON, ANDS and BICS of a shifted register.
abbrev pub logical_shifted : Row
logical_shifted = record { parts = sf ∷ opc ∷ is 5 0b01010 ∷ shift ∷ n ∷ rm ∷ imm6 ∷ rn ∷ rd ∷ []; inst = LogicalShifted }

-- AND, ORR, EOR and ANDS of an immediate.
abbrev pub logical_imm : Row
logical_imm = record { parts = sf ∷ opc ∷ is 6 0b100100 ∷ n ∷ immr ∷ imms ∷ rn ∷ rd ∷ []; inst = LogicalImm }

-- MOVN, MOVZ, MOVK.
abbrev pub move_wide : Row
move_wide = record { parts = sf ∷ opc ∷ is 6 0b100101 ∷ hw ∷ imm16 ∷ rd ∷ []; inst = MoveWide }

-- SBFM, BFM, UBFM.
abbrev pub bitfield : Row
bitfield = record { parts = sf ∷ opc ∷ is 6 0b100110 ∷ n ∷ immr ∷ imms ∷ rn ∷ rd ∷ []; inst = Bitfield }

-- EXTR.
abbrev pub extr : Row
extr = record { parts = sf ∷ is 8 0b00100111 ∷ n ∷ is 1 0b0 ∷ rm ∷ imms ∷ rn ∷ rd ∷ []; inst = Extr }

-- UDIV, SDIV, LSLV, LSRV, ASRV, RORV.
abbrev pub two_sources : Row
two_sources = record { parts = sf ∷ is 10 0b0011010110 ∷ rm ∷ opcode ∷ rn ∷ rd ∷ []; inst = TwoSources }

-- RBIT, REV16, REV, REV32, CLZ, CLS.
abbrev pub one_source : Row
one_source = record { parts = sf ∷ is 15 0b101101011000000 ∷ opcode ∷ rn ∷ rd ∷ []; inst = OneSource }

-- MADD, MSUB, SMADDL, SMSUBL, SMULH, UMADDL, UMSUBL, UMULH.
abbrev pub three_sources : Row
three_sources = record { parts = sf ∷ is 7 0b0011011 ∷ op3 ∷ rm ∷ o0 ∷ ra ∷ rn ∷ rd ∷ []; inst = ThreeSources }

-- ADC, ADCS, SBC, SBCS.
abbrev pub with_carry : Row
with_carry = record { parts = sf ∷ op ∷ s ∷ is 8 0b11010000 ∷ rm ∷ is 6 0b000000 ∷ rn ∷ rd ∷ []; inst = WithCarry }

-- CCMN, CCMP.
abbrev pub cond_compare : Row
cond_compare = record { parts = sf ∷ op ∷ is 9 0b111010010 ∷ rm ∷ cond ∷ i ∷ is 1 0b0 ∷ rn ∷ is 1 0b0 ∷ nzcv ∷ []; inst = CondCompare }

-- CSEL, CSINC, CSINV, CSNEG.
abbrev pub cond_select : Row
cond_select = record { parts = sf ∷ op ∷ is 9 0b011010100 ∷ rm ∷ cond ∷ is 1 0b0 ∷ o2 ∷ rn ∷ rd ∷ []; inst = CondSelect }

-- B, BL.
abbrev pub b_bl : Row
b_bl = record { parts = op ∷ is 5 0b00101 ∷ imm26 ∷ []; inst = BBl }

-- B.cond.
abbrev pub b_cond : Row
b_cond = record { parts = is 8 0b01010100 ∷ imm19 ∷ is 1 0b0 ∷ cond ∷ []; inst = BCond }

-- CBZ, CBNZ.
abbrev pub cbz_cbnz : Row
cbz_cbnz = record { parts = sf ∷ is 6 0b011010 ∷ op ∷ imm19 ∷ rt ∷ []; inst = CbzCbnz }

-- TBZ, TBNZ.
abbrev pub tbz_tbnz : Row
tbz_tbnz = record { parts = b5 ∷ is 6 0b011011 ∷ op ∷ b40 ∷ imm14 ∷ rt ∷ []; inst = TbzTbnz }

-- BR.
abbrev pub br : Row
br = record { parts = is 22 0b1101011000011111000000 ∷ rn ∷ is 5 0b00000 ∷ []; inst = BrBlrRet 0 }

-- BLR.
abbrev pub blr : Row
blr = record { parts = is 22 0b1101011000111111000000 ∷ rn ∷ is 5 0b00000 ∷ []; inst = BrBlrRet 1 }

-- RET.
abbrev pub ret : Row
ret = record { parts = is 22 0b1101011001011111000000 ∷ rn ∷ is 5 0b00000 ∷ []; inst = BrBlrRet 2 }

-- SVC.
abbrev pub svc : Row
svc = record { parts = is 11 0b11010100000 ∷ imm16 ∷ is 5 0b00001 ∷ []; inst = SvcBrk 0 }

-- BRK.
abbrev pub brk : Row
brk = record { parts = is 11 0b11010100001 ∷ imm16 ∷ is 5 0b00000 ∷ []; inst = SvcBrk 1 }

-- UDF.
abbrev pub udf : Row
udf = record { parts = is 16 0b0000000000000000 ∷ imm16 ∷ []; inst = Udf }

-- HINT, which does nothing.
abbrev pub hint : Row
hint = record { parts = is 20 0b11010101000000110010 ∷ hint_number ∷ is 5 0b11111 ∷ []; inst = Hint }

-- LDR and LDRSW of a literal.
abbrev pub literal : Row
literal = record { parts = opc ∷ is 6 0b011000 ∷ imm19 ∷ rt ∷ []; inst = Literal }

-- Loads and stores with an unsigned offset in units of their size.
abbrev pub scaled : Row
scaled = record { parts = size ∷ is 6 0b111001 ∷ opc ∷ imm12 ∷ rn ∷ rt ∷ []; inst = Scaled }

-- Loads and stores with a signed offset: unscaled, post-indexed and pre-indexed.
abbrev pub unscaled_post_pre : Row
unscaled_post_pre = record { parts = size ∷ is 6 0b111000 ∷ opc ∷ is 1 0b0 ∷ imm9 ∷ idx ∷ rn ∷ rt ∷ []; inst = UnscaledPostPre }

-- Loads and stores with an offset in a register.
abbrev pub register : Row
register = record { parts = size ∷ is 6 0b111000 ∷ opc ∷ is 1 0b1 ∷ rm ∷ option ∷ s ∷ is 2 0b10 ∷ rn ∷ rt ∷ []; inst = Register }

-- LDP, LDPSW, STP. Of the three bits of idx the upper one is always 0.
abbrev pub pair : Row
pair = record { parts = opc ∷ is 5 0b10100 ∷ idx ∷ l ∷ imm7 ∷ rt2 ∷ rn ∷ rt ∷ []; inst = Pair }

unfoldable pub table : List Row
table =
    adr_adrp ∷ add_sub_imm ∷ add_sub_shifted ∷ add_sub_extended ∷ logical_shifted ∷ logical_imm ∷
    move_wide ∷ bitfield ∷ extr ∷ two_sources ∷ one_source ∷ three_sources ∷
    with_carry ∷ cond_compare ∷ cond_select ∷ b_bl ∷ b_cond ∷ cbz_cbnz ∷
    tbz_tbnz ∷ br ∷ blr ∷ ret ∷ svc ∷ brk ∷
    udf ∷ hint ∷ literal ∷ scaled ∷ unscaled_post_pre ∷ register ∷
    pair ∷ []

-- the row of an instruction
abbrev pub row_of : Inst → Row
row_of (AdrAdrp a b c d) = adr_adrp
row_of (AddSubImm a b c d e f g) = add_sub_imm
row_of (AddSubShifted a b c d e f g h) = add_sub_shifted
row_of (AddSubExtended a b c d e f g h) = add_sub_extended
row_of (LogicalShifted a b c d e f g h) = logical_shifted
row_of (LogicalImm a b c d e f g) = logical_imm
row_of (MoveWide a b c d e) = move_wide
row_of (Bitfield a b c d e f g) = bitfield
row_of (Extr a b c d e f) = extr
row_of (TwoSources a b c d e) = two_sources
row_of (OneSource a b c d) = one_source
row_of (ThreeSources a b c d e f g) = three_sources
row_of (WithCarry a b c d e f) = with_carry
row_of (CondCompare a b c d e f g) = cond_compare
row_of (CondSelect a b c d e f g) = cond_select
row_of (BBl a b) = b_bl
row_of (BCond a b) = b_cond
row_of (CbzCbnz a b c d) = cbz_cbnz
row_of (TbzTbnz a b c d e) = tbz_tbnz
row_of (BrBlrRet which a) = if which == 0 then br else if which == 1 then blr else ret
row_of (SvcBrk which a) = if which == 0 then svc else brk
row_of (Udf a) = udf
row_of (Hint a) = hint
row_of (Literal a b c) = literal
row_of (Scaled a b c d e) = scaled
row_of (UnscaledPostPre a b c d e f) = unscaled_post_pre
row_of (Register a b c d e f g) = register
row_of (Pair a b c d e f g) = pair

-- its fields
abbrev pub fields_of : Inst → List ℕ
fields_of (AdrAdrp a b c d) = a ∷ b ∷ c ∷ d ∷ []
fields_of (AddSubImm a b c d e f g) = a ∷ b ∷ c ∷ d ∷ e ∷ f ∷ g ∷ []
fields_of (AddSubShifted a b c d e f g h) = a ∷ b ∷ c ∷ d ∷ e ∷ f ∷ g ∷ h ∷ []
fields_of (AddSubExtended a b c d e f g h) = a ∷ b ∷ c ∷ d ∷ e ∷ f ∷ g ∷ h ∷ []
fields_of (LogicalShifted a b c d e f g h) = a ∷ b ∷ c ∷ d ∷ e ∷ f ∷ g ∷ h ∷ []
fields_of (LogicalImm a b c d e f g) = a ∷ b ∷ c ∷ d ∷ e ∷ f ∷ g ∷ []
fields_of (MoveWide a b c d e) = a ∷ b ∷ c ∷ d ∷ e ∷ []
fields_of (Bitfield a b c d e f g) = a ∷ b ∷ c ∷ d ∷ e ∷ f ∷ g ∷ []
fields_of (Extr a b c d e f) = a ∷ b ∷ c ∷ d ∷ e ∷ f ∷ []
fields_of (TwoSources a b c d e) = a ∷ b ∷ c ∷ d ∷ e ∷ []
fields_of (OneSource a b c d) = a ∷ b ∷ c ∷ d ∷ []
fields_of (ThreeSources a b c d e f g) = a ∷ b ∷ c ∷ d ∷ e ∷ f ∷ g ∷ []
fields_of (WithCarry a b c d e f) = a ∷ b ∷ c ∷ d ∷ e ∷ f ∷ []
fields_of (CondCompare a b c d e f g) = a ∷ b ∷ c ∷ d ∷ e ∷ f ∷ g ∷ []
fields_of (CondSelect a b c d e f g) = a ∷ b ∷ c ∷ d ∷ e ∷ f ∷ g ∷ []
fields_of (BBl a b) = a ∷ b ∷ []
fields_of (BCond a b) = a ∷ b ∷ []
fields_of (CbzCbnz a b c d) = a ∷ b ∷ c ∷ d ∷ []
fields_of (TbzTbnz a b c d e) = a ∷ b ∷ c ∷ d ∷ e ∷ []
fields_of (BrBlrRet which a) = a ∷ []
fields_of (SvcBrk which a) = a ∷ []
fields_of (Udf a) = a ∷ []
fields_of (Hint a) = a ∷ []
fields_of (Literal a b c) = a ∷ b ∷ c ∷ []
fields_of (Scaled a b c d e) = a ∷ b ∷ c ∷ d ∷ e ∷ []
fields_of (UnscaledPostPre a b c d e f) = a ∷ b ∷ c ∷ d ∷ e ∷ f ∷ []
fields_of (Register a b c d e f g) = a ∷ b ∷ c ∷ d ∷ e ∷ f ∷ g ∷ []
fields_of (Pair a b c d e f g) = a ∷ b ∷ c ∷ d ∷ e ∷ f ∷ g ∷ []
