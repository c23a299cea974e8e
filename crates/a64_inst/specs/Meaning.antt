-- What each instruction does, as operations (DDI 0487, C6.2).
use Rattle.std.specs.Prelude.{ℕ, ◌+◌, ◌*◌, ◌^◌, true, false, ◌==◌, ◌&&◌, ◌||◌, nat_le, if◌then◌else◌, List, [], ◌∷◌, ◌++◌}
use Rattle.a64_inst.specs.declared.inst.Inst.{Inst}
use Rattle.a64_inst.specs.declared.inst.Inst.TheVariants.{AdrAdrp, AddSubImm, AddSubShifted, AddSubExtended, LogicalShifted, LogicalImm, MoveWide, Bitfield, Extr, TwoSources, OneSource, ThreeSources, WithCarry, CondCompare, CondSelect, BBl, BCond, CbzCbnz, TbzTbnz, BrBlrRet, SvcBrk, Udf, Hint, Literal, Scaled, UnscaledPostPre, Register, Pair}
use Rattle.a64_inst.specs.declared.trap.Trap.TheVariants as traps
use Rattle.a64_inst.specs.declared.operations.Width.{Width}
use Rattle.a64_inst.specs.declared.operations.Width.TheVariants.{W, X}
use Rattle.a64_inst.specs.declared.operations.Sum.{Sum}
use Rattle.a64_inst.specs.declared.operations.Sum.TheVariants.{Add, Subtract}
use Rattle.a64_inst.specs.declared.operations.Unary.TheVariants as unary
use Rattle.a64_inst.specs.declared.operations.Binary.{Binary}
use Rattle.a64_inst.specs.declared.operations.Binary.TheVariants as binary
use Rattle.a64_inst.specs.declared.operations.Op.{Op}
use Rattle.a64_inst.specs.declared.operations.Op.TheVariants as op
use Rattle.a64_inst.specs.Numbers.{inverse, low, sign_extended, bit_mask, bits_of}

-- the width that sf names
abbrev pub width_of : ℕ → Width
width_of sf = if sf == 0 then W else X

-- a sum, or where op is 1 a difference
abbrev pub sum_of : ℕ → Sum
sum_of op = if op == 1 then Subtract else Add

-- ---- parts of several rows. `count` is the number of values that there are.

-- the sum of value 0 and the value at a place, to a register
abbrev pub summed : Width → Sum → ℕ → ℕ → ℕ → List Op
summed width sum b count rd = op.Keep rd ∷ op.Sum sum width 0 b ∷ op.Write false rd count ∷ []

-- the same, and for s the flags
abbrev pub flagged_sum : Width → ℕ → Sum → ℕ → ℕ → ℕ → List Op
flagged_sum width s sum b count rd =
    if s == 1 then op.FlagsOfSum sum width 0 b ∷ summed width sum b count rd else summed width sum b count rd

-- the same, where without flags the register may be the stack pointer
abbrev pub flagged_sum_or_stack : Width → ℕ → Sum → ℕ → ℕ → ℕ → List Op
flagged_sum_or_stack width s sum b count rd =
    if s == 1 then op.FlagsOfSum sum width 0 b ∷ summed width sum b count rd else op.Sum sum width 0 b ∷ op.Write true rd count ∷ []

-- a sum of value 0, value 1 or its inverse, and the carry in value 2, to a register
abbrev pub carried_sum_to : Width → Sum → ℕ → List Op
carried_sum_to width sum rd =
    op.Keep rd ∷ op.Unary (unary.Addend sum) width 1 ∷ op.Binary (binary.PlainSum Add) width 0 3 ∷ op.Binary (binary.PlainSum Add) width 4 2 ∷ op.Write false rd 5 ∷ []

-- a product of values 0 and 1 added to value 2, or taken from it, to a register
abbrev pub product_to : Binary → Width → Sum → ℕ → List Op
product_to multiplied width sum rd =
    op.Keep rd ∷ op.Binary multiplied width 0 1 ∷ op.Binary (binary.PlainSum sum) width 2 3 ∷ op.Write false rd 4 ∷ []

-- the access that size and opc name, at the address at a place: a store for 0, a load without sign for 1, with a
-- sign to 64 bits for 2 and to 32 for 3
abbrev pub access : ℕ → ℕ → ℕ → ℕ → ℕ → List Op
access size opc rt address count =
    if opc == 0 then op.Read false rt ∷ op.Unary (unary.Extend size 0) X count ∷ op.Store (2 ^ size) (count + 1) address ∷ []
    else op.Load (2 ^ size) (nat_le 2 opc) (if opc == 3 then W else X) address ∷ op.Write false rt count ∷ []

-- the bytes of each register of a pair, as a power of 2
abbrev pub pair_size : ℕ → ℕ
pair_size opc = if opc == 2 then 3 else 2

-- two loads of a pair, at the addresses at two places, behind five values
abbrev pub pair_load : ℕ → ℕ → ℕ → ℕ → List Op
pair_load opc rt rt2 address =
    op.Load (2 ^ pair_size opc) (opc == 1) X address ∷ op.Load (2 ^ pair_size opc) (opc == 1) X 4 ∷ op.Write false rt 5 ∷ op.Write false rt2 6 ∷ []

-- two stores of a pair
abbrev pub pair_store : ℕ → ℕ → ℕ → ℕ → List Op
pair_store opc rt rt2 address =
    op.Read false rt ∷ op.Unary (unary.Extend (pair_size opc) 0) X 5 ∷ op.Read false rt2 ∷ op.Unary (unary.Extend (pair_size opc) 0) X 7 ∷
    op.Store (2 ^ pair_size opc) 6 address ∷ op.Store (2 ^ pair_size opc) 8 4 ∷ []

-- the two accesses of a pair, at the address at a place, behind three values
abbrev pub pair_access : ℕ → ℕ → ℕ → ℕ → ℕ → List Op
pair_access opc l rt rt2 address =
    op.Number (2 ^ pair_size opc) ∷ op.Sum Add X address 3 ∷ (if l == 1 then pair_load opc rt rt2 address else pair_store opc rt rt2 address)

-- ---- row by row

abbrev pub ops : Inst → List Op
ops (AdrAdrp which lo hi rd) =
    op.Target (which == 1) (if which == 1 then sign_extended 33 64 ((hi * 4 + lo) * 4096) else sign_extended 21 64 (hi * 4 + lo)) ∷ op.Write false rd 0 ∷ []
ops (AddSubImm sf sum s sh imm12 rn rd) =
    if (sf == 1) && ((sum == 0) && ((s == 0) && (sh == 0))) then op.Read true rn ∷ op.JoinLow 1 imm12 0 ∷ op.Write true rd 1 ∷ []
    else op.Read true rn ∷ op.Number (imm12 * 2 ^ (12 * sh)) ∷ flagged_sum_or_stack (width_of sf) s (sum_of sum) 1 2 rd
ops (AddSubShifted sf sum s shift rm imm6 rn rd) =
    op.Read false rn ∷ op.Read false rm ∷ op.Unary (unary.Shift shift imm6) (width_of sf) 1 ∷ flagged_sum (width_of sf) s (sum_of sum) 2 3 rd
ops (AddSubExtended sf sum s rm option imm3 rn rd) =
    op.Read true rn ∷ op.Read false rm ∷ op.Unary (unary.Extend option imm3) (width_of sf) 1 ∷ flagged_sum_or_stack (width_of sf) s (sum_of sum) 2 3 rd
-- ORR of the zero register and a whole register copies
ops (LogicalShifted sf opc shift n rm imm6 rn rd) =
    if (sf == 1) && ((opc == 1) && ((n == 0) && ((imm6 == 0) && (rn == 31)))) then op.Read false rm ∷ op.Copy 0 ∷ op.Write false rd 1 ∷ []
    else op.Read false rn ∷ op.Read false rm ∷ op.Unary (unary.Shift shift imm6) (width_of sf) 1 ∷
    (if opc == 3 then op.Binary (binary.Logic opc (n == 1)) (width_of sf) 0 2 ∷ op.FlagsOfLogic (width_of sf) 3 ∷ op.Write false rd 3 ∷ []
    else op.Keep rd ∷ op.Binary (binary.Logic opc (n == 1)) (width_of sf) 0 2 ∷ op.Write false rd 3 ∷ [])
ops (LogicalImm sf opc n immr imms rn rd) =
    op.Read false rn ∷ op.Number (bit_mask (bits_of (width_of sf)) n immr imms) ∷ op.Binary (binary.Logic opc false) (width_of sf) 0 1 ∷
    (if opc == 3 then op.FlagsOfLogic (width_of sf) 2 ∷ op.Write false rd 2 ∷ [] else op.Write true rd 2 ∷ [])
ops (MoveWide sf opc hw imm16 rd) =
    if opc == 3 then op.Read false rd ∷ op.Keep rd ∷ op.Unary (unary.Insert imm16 (16 * hw)) (width_of sf) 0 ∷ op.Write false rd 1 ∷ []
    else op.Number (if opc == 0 then inverse (bits_of (width_of sf)) (imm16 * 2 ^ (16 * hw)) else imm16 * 2 ^ (16 * hw)) ∷ op.Write false rd 0 ∷ []
ops (Bitfield sf opc n immr imms rn rd) =
    if opc == 1 then op.Read false rn ∷ op.Read false rd ∷ op.Keep rd ∷ op.Binary (binary.BitfieldInto immr imms) (width_of sf) 1 0 ∷ op.Write false rd 2 ∷ []
    else op.Read false rn ∷ op.Keep rd ∷ op.Unary (unary.Bitfield (opc == 0) immr imms) (width_of sf) 0 ∷ op.Write false rd 1 ∷ []
ops (Extr sf n rm imms rn rd) =
    op.Read false rn ∷ op.Read false rm ∷ op.Keep rd ∷ op.Binary (binary.Extract imms) (width_of sf) 0 1 ∷ op.Write false rd 2 ∷ []
ops (TwoSources sf rm opcode rn rd) =
    op.Read false rn ∷ op.Read false rm ∷ op.Keep rd ∷ op.Binary (binary.TwoSources opcode) (width_of sf) 0 1 ∷ op.Write false rd 2 ∷ []
ops (OneSource sf opcode rn rd) =
    op.Read false rn ∷ op.Keep rd ∷ op.Unary (unary.OneSource opcode) (width_of sf) 0 ∷ op.Write false rd 1 ∷ []
ops (ThreeSources sf which rm o0 ra rn rd) =
    op.Read false rn ∷ op.Read false rm ∷
    (if which == 0 then op.Read false ra ∷ product_to binary.Product (width_of sf) (sum_of o0) rd
    else if (which == 1) || (which == 5) then op.Read false ra ∷ product_to (binary.LongProduct (which == 1)) X (sum_of o0) rd
    else op.Keep rd ∷ op.Binary (binary.HighProduct (which == 2)) X 0 1 ∷ op.Write false rd 2 ∷ [])
ops (WithCarry sf sum s rm rn rd) =
    op.Read false rn ∷ op.Read false rm ∷ op.Carry ∷
    (if s == 1 then op.FlagsOfCarry (sum_of sum) (width_of sf) 0 1 2 ∷ carried_sum_to (width_of sf) (sum_of sum) rd else carried_sum_to (width_of sf) (sum_of sum) rd)
ops (CondCompare sf sum rm cond i rn nzcv) =
    op.Read false rn ∷ (if i == 1 then op.Number rm else op.Read false rm) ∷ op.Condition cond ∷ op.FlagsIf (sum_of sum) (width_of sf) 2 0 1 nzcv ∷ []
ops (CondSelect sf invert rm cond o2 rn rd) =
    op.Read false rn ∷ op.Read false rm ∷ op.Condition cond ∷ op.Keep rd ∷ op.Choose (invert == 1) (o2 == 1) (width_of sf) 2 0 1 ∷ op.Write false rd 3 ∷ []
ops (BBl links imm26) =
    op.Target false (sign_extended 28 64 (imm26 * 4)) ∷ (if links == 0 then op.Jump 0 ∷ [] else op.Link ∷ op.Jump 0 ∷ [])
ops (BCond imm19 cond) = op.Target false (sign_extended 21 64 (imm19 * 4)) ∷ op.Condition cond ∷ op.JumpIf 1 0 ∷ []
ops (CbzCbnz sf negated imm19 rt) =
    op.Target false (sign_extended 21 64 (imm19 * 4)) ∷ op.Read false rt ∷ op.IsZero (negated == 1) (width_of sf) 1 ∷ op.JumpIf 2 0 ∷ []
ops (TbzTbnz b5 negated b40 imm14 rt) =
    op.Target false (sign_extended 16 64 (imm14 * 4)) ∷ op.Read false rt ∷ op.Unary (unary.Bit (b5 * 32 + b40)) X 1 ∷ op.IsZero (negated == 1) X 2 ∷ op.JumpIf 3 0 ∷ []
-- BLR reads its target before it links
ops (BrBlrRet which rn) = op.Read false rn ∷ (if which == 1 then op.Link ∷ op.Jump 0 ∷ [] else op.Jump 0 ∷ [])
ops (SvcBrk which imm16) = if which == 0 then op.Call imm16 ∷ [] else op.Trap (traps.Break imm16) ∷ []
ops (Udf imm16) = op.Trap (traps.Udf imm16) ∷ []
ops (Hint number) = []
ops (Literal opc imm19 rt) =
    op.Target false (sign_extended 21 64 (imm19 * 4)) ∷ op.Load (if opc == 1 then 8 else 4) (opc == 2) X 0 ∷ op.Write false rt 1 ∷ []
ops (Scaled size opc imm12 rn rt) = op.Read true rn ∷ op.JoinLow (2 ^ size) imm12 0 ∷ access size opc rt 1 2
ops (UnscaledPostPre size opc imm9 idx rn rt) =
    op.Read true rn ∷ op.Number (sign_extended 9 64 imm9) ∷ op.Sum Add X 0 1 ∷
    (if idx == 0 then access size opc rt 2 3 else access size opc rt (if idx == 1 then 0 else 2) 3 ++ op.Write true rn 2 ∷ [])
ops (Register size opc rm option s rn rt) =
    op.Read true rn ∷ op.Read false rm ∷ op.Unary (unary.Extend option (s * size)) X 1 ∷ op.Sum Add X 0 2 ∷ access size opc rt 3 4
ops (Pair opc idx l imm7 rt2 rn rt) =
    op.Read true rn ∷ op.Number (low 64 (sign_extended 7 64 imm7 * 2 ^ pair_size opc)) ∷ op.Sum Add X 0 1 ∷
    (if idx == 2 then pair_access opc l rt rt2 2 else pair_access opc l rt rt2 (if idx == 1 then 0 else 2) ++ op.Write true rn 2 ∷ [])
