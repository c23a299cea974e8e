-- What the rows of the instruction table keep out: fields reserved by the architecture, and values that
-- stand for other instructions.
use Rattle.std.specs.Prelude.{ℕ, ◌-◌, ◌/◌, ◌%◌, Bool, true, false, ◌==◌, ◌&&◌, ◌||◌, not, nat_lt}
use Rattle.a64_inst.specs.declared.inst.Inst.{Inst}
use Rattle.a64_inst.specs.declared.inst.Inst.TheVariants.{AddSubShifted, AddSubExtended, LogicalShifted, LogicalImm, MoveWide, Bitfield, Extr, TwoSources, OneSource, ThreeSources, BrBlrRet, SvcBrk, Literal, Scaled, UnscaledPostPre, Register, Pair}
use Rattle.a64_inst.specs.Numbers.{element_size}

-- where a row has several whole words, `which` counts one of them
abbrev pub names_word : Inst → Bool
names_word (SvcBrk which a) = nat_lt which 2
names_word (BrBlrRet which a) = nat_lt which 3
names_word i = true

-- a 32-bit instruction has this number past the bits of its operands
abbrev pub is_past_32 : ℕ → ℕ → Bool
is_past_32 sf amount = (sf == 0) && nat_lt 31 amount

-- a shifted operand has this type and amount: ROR is for logical rows alone
abbrev pub is_no_shift : ℕ → ℕ → ℕ → Bool
is_no_shift sf shift imm6 = (shift == 3) || is_past_32 sf imm6

-- the fields of a logical immediate name no mask: there is no element of two bits or more, all of an
-- element's bits are ones, or a 32-bit mask has a 64-bit element (DDI 0487, DecodeBitMasks)
abbrev pub is_no_mask : ℕ → ℕ → ℕ → Bool
is_no_mask sf n imms = (element_size n imms == 0) || ((imms % element_size n imms == element_size n imms - 1) || ((sf == 0) && (n == 1)))

-- a wide move has no opc 1, and at 32 bits no upper half
abbrev pub is_no_move : ℕ → ℕ → ℕ → Bool
is_no_move sf opc hw = (opc == 1) || ((sf == 0) && nat_lt 1 hw)

-- a bit field has no opc 3, N is sf, and both places lie in the operand
abbrev pub is_no_bitfield : ℕ → ℕ → ℕ → ℕ → ℕ → Bool
is_no_bitfield sf opc n immr imms = (opc == 3) || (not (n == sf) || (is_past_32 sf immr || is_past_32 sf imms))

-- an extract has N as sf, and its place lies in the operand
abbrev pub is_no_extract : ℕ → ℕ → ℕ → Bool
is_no_extract sf n imms = not (n == sf) || is_past_32 sf imms

-- two sources have the opcodes 2, 3 and 8 to 11
abbrev pub is_not_of_two : ℕ → Bool
is_not_of_two opcode = nat_lt opcode 2 || (nat_lt 11 opcode || (nat_lt 3 opcode && nat_lt opcode 8))

-- one source has the opcodes 0 to 5, of which 3 is for 64 bits alone
abbrev pub is_not_of_one : ℕ → ℕ → Bool
is_not_of_one sf opcode = nat_lt 5 opcode || ((opcode == 3) && (sf == 0))

-- a row of three sources has this opcode: a sum with a product, one with a product of 32 bits, or the upper
-- half of a product, which adds nothing
abbrev pub is_product : ℕ → ℕ → ℕ → ℕ → Bool
is_product sf op o0 ra = (op == 0) || ((sf == 1) && (((op == 1) || (op == 5)) || (((op == 2) || (op == 6)) && ((o0 == 0) && (ra == 31)))))

-- no load or store has this size and opc
abbrev pub is_no_access : ℕ → ℕ → Bool
is_no_access size opc = ((size == 2) && (opc == 3)) || ((size == 3) && nat_lt 1 opc)

-- idx changes the base, which is also one of the other registers
abbrev pub changes_base : ℕ → ℕ → ℕ → Bool
changes_base idx rn rt = (idx % 2 == 1) && ((rn == rt) && not (rn == 31))

-- an indexed access has this size and opc, idx is not 2, and the base it changes is no other register
abbrev pub is_no_indexed : ℕ → ℕ → ℕ → ℕ → ℕ → Bool
is_no_indexed size opc idx rn rt = is_no_access size opc || ((idx == 2) || changes_base idx rn rt)

-- an offset in a register is of 32 or 64 bits
abbrev pub is_no_offset : ℕ → ℕ → ℕ → Bool
is_no_offset size opc option = is_no_access size opc || not (option / 2 % 2 == 1)

-- no pair has this opc, idx and L: LDPSW alone has opc 1
abbrev pub is_no_pair_form : ℕ → ℕ → ℕ → Bool
is_no_pair_form opc idx l = (idx == 0) || ((opc == 3) || ((opc == 1) && (l == 0)))

-- nor one that loads one register twice, or whose changed base is one of its registers
abbrev pub is_no_pair : ℕ → ℕ → ℕ → ℕ → ℕ → ℕ → Bool
is_no_pair opc idx l rt2 rn rt = is_no_pair_form opc idx l || (((l == 1) && (rt == rt2)) || (changes_base idx rn rt || changes_base idx rn rt2))

-- the row keeps these fields out
abbrev pub is_reserved : Inst → Bool
is_reserved (AddSubShifted sf op s shift rm imm6 rn rd) = is_no_shift sf shift imm6
is_reserved (AddSubExtended sf op s rm option imm3 rn rd) = nat_lt 4 imm3
is_reserved (LogicalShifted sf opc shift n rm imm6 rn rd) = is_past_32 sf imm6
is_reserved (LogicalImm sf opc n immr imms rn rd) = is_no_mask sf n imms
is_reserved (MoveWide sf opc hw imm16 rd) = is_no_move sf opc hw
is_reserved (Bitfield sf opc n immr imms rn rd) = is_no_bitfield sf opc n immr imms
is_reserved (Extr sf n rm imms rn rd) = is_no_extract sf n imms
is_reserved (TwoSources sf rm opcode rn rd) = is_not_of_two opcode
is_reserved (OneSource sf opcode rn rd) = is_not_of_one sf opcode
is_reserved (ThreeSources sf op rm o0 ra rn rd) = not (is_product sf op o0 ra)
is_reserved (Literal opc imm19 rt) = opc == 3
is_reserved (Scaled size opc imm12 rn rt) = is_no_access size opc
is_reserved (UnscaledPostPre size opc imm9 idx rn rt) = is_no_indexed size opc idx rn rt
is_reserved (Register size opc rm option s rn rt) = is_no_offset size opc option
is_reserved (Pair opc idx l imm7 rt2 rn rt) = is_no_pair opc idx l rt2 rn rt
is_reserved i = false
