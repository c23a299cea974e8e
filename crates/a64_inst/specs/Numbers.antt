-- What number functions give, at a width in bits (DDI 0487, shared pseudocode).
use Rattle.std.specs.Prelude.{ℕ, zero, suc, ◌+◌, ◌-◌, ◌*◌, ◌/◌, ◌%◌, ◌^◌, Bool, true, false, ◌==◌, ◌&&◌, not, nat_le, nat_lt, bit_and, bit_or, bit_xor, if◌then◌else◌}
use Rattle.std.specs.Int as int
use Rattle.std.specs.Int.{w16, w32, w64, swap_bytes, reverse_bits_onto}
use Rattle.a64_inst.specs.declared.flags.Flags.{Flags}
use Rattle.a64_inst.specs.declared.operations.Width.{Width}
use Rattle.a64_inst.specs.declared.operations.Width.TheVariants.{W, X}
use Rattle.a64_inst.specs.declared.operations.Sum.{Sum}
use Rattle.a64_inst.specs.declared.operations.Sum.TheVariants.{Add, Subtract}
use Rattle.a64_inst.specs.declared.operations.Unary.{Unary}
use Rattle.a64_inst.specs.declared.operations.Unary.TheVariants.{Insert, Shift, Extend, Bitfield, Addend, OneSource, Bit}
use Rattle.a64_inst.specs.declared.operations.Binary.{Binary}
use Rattle.a64_inst.specs.declared.operations.Binary.TheVariants.{Logic, TwoSources, BitfieldInto, Extract, Product, LongProduct, HighProduct, PlainSum}
use lib.Count.{count_leading_zeros}
use mir.Val.{bits}

-- the bits of a width
abbrev pub bits_of : Width → ℕ
bits_of W = 32
bits_of X = 64

-- two truths are one
abbrev pub same : Bool → Bool → Bool
same true b = b
same false b = not b

-- the low bits of a number
abbrev pub low : ℕ → ℕ → ℕ
low width a = a % 2 ^ width

-- all bits of a number turned round
abbrev pub inverse : ℕ → ℕ → ℕ
inverse width a = 2 ^ width - 1 - low width a

-- the top bit of a number of this width is 1
abbrev pub is_negative : ℕ → ℕ → Bool
is_negative width a = nat_le (2 ^ (width - 1)) a

-- the low bits of a number, with the topmost of them copied upward to the width
abbrev pub sign_extended : ℕ → ℕ → ℕ → ℕ
sign_extended bits width a = if is_negative bits (low bits a) then low bits a + (2 ^ width - 2 ^ bits) else low bits a

-- 1 for true, 0 for false
abbrev pub bit_of : Bool → ℕ
bit_of b = if b then 1 else 0

-- the sum of two numbers and a carry (AddWithCarry)
abbrev pub carried_sum : ℕ → ℕ → ℕ → ℕ → ℕ
carried_sum width a b carry = low width a + low width b + carry

-- the flags of that sum (AddWithCarry)
abbrev pub carried_flags : ℕ → ℕ → ℕ → ℕ → Flags
carried_flags width a b carry = record {
  n = is_negative width (low width (carried_sum width a b carry));
  z = low width (carried_sum width a b carry) == 0;
  c = nat_le (2 ^ width) (carried_sum width a b carry);
  v = same (is_negative width (low width a)) (is_negative width (low width b)) && not (same (is_negative width (low width a)) (is_negative width (low width (carried_sum width a b carry))));
}

-- the second operand of a sum; a difference is a plus not b plus 1
abbrev pub addend : Sum → ℕ → ℕ → ℕ
addend Add width b = low width b
addend Subtract width b = inverse width b

-- the carry into a sum
abbrev pub carry_into : Sum → ℕ
carry_into Add = 0
carry_into Subtract = 1

-- a plus b, or a less b
abbrev pub sum_value : Sum → ℕ → ℕ → ℕ → ℕ
sum_value sum width a b = low width (carried_sum width a (addend sum width b) (carry_into sum))

-- the flags of that
abbrev pub sum_flags : Sum → ℕ → ℕ → ℕ → Flags
sum_flags sum width a b = carried_flags width a (addend sum width b) (carry_into sum)

-- the flags of a sum or a difference with a carry
abbrev pub carry_flags : Sum → ℕ → ℕ → ℕ → ℕ → Flags
carry_flags sum width a b carry = carried_flags width a (addend sum width b) carry

-- the flags of a logical result
abbrev pub logic_flags : ℕ → ℕ → Flags
logic_flags width a = record { n = is_negative width (low width a); z = low width a == 0; c = false; v = false }

-- the flags that four bits name, N first
abbrev pub named_flags : ℕ → Flags
named_flags nzcv = record { n = nzcv / 8 % 2 == 1; z = nzcv / 4 % 2 == 1; c = nzcv / 2 % 2 == 1; v = nzcv % 2 == 1 }

-- what the upper three bits of a condition ask of the flags (ConditionHolds)
abbrev pub asked : ℕ → Flags → Bool
asked which f =
    if which == 0 then f.z
    else if which == 1 then f.c
    else if which == 2 then f.n
    else if which == 3 then f.v
    else if which == 4 then f.c && not f.z
    else if which == 5 then same f.n f.v
    else if which == 6 then same f.n f.v && not f.z
    else true

-- the flags hold a condition: where it is odd, and not 15, the contrary of what is asked (ConditionHolds)
abbrev pub holds : ℕ → Flags → Bool
holds condition f = if (condition % 2 == 1) && not (condition == 15) then not (asked (condition / 2) f) else asked (condition / 2) f

-- ---- shifts, extensions and bit fields

-- a number of this width turned round to the right (ROR)
abbrev pub rotated : ℕ → ℕ → ℕ → ℕ
rotated width a amount = low width a / 2 ^ amount + low width (low width a * 2 ^ (width - amount))

-- a shift by a type, LSL, LSR, ASR or ROR, and an amount below the width (ShiftReg)
abbrev pub shifted : ℕ → ℕ → ℕ → ℕ → ℕ
shifted width kind a amount =
    if kind == 0 then low width (low width a * 2 ^ amount)
    else if kind == 1 then low width a / 2 ^ amount
    else if kind == 2 then low width a / 2 ^ amount + (if is_negative width (low width a) then 2 ^ width - 2 ^ (width - amount) else 0)
    else rotated width a amount

-- the low bits that an option names, extended without sign up to 3 and with sign from 4 on (ExtendReg)
abbrev pub extended : ℕ → ℕ → ℕ → ℕ
extended width option a = if nat_le 4 option then sign_extended (8 * 2 ^ (option % 4)) width a else low (8 * 2 ^ (option % 4)) a

-- bits immr to imms moved down to 0, or bits 0 to imms moved up to the width less immr (DDI 0487, C6.2, UBFM)
abbrev pub moved_bits : ℕ → ℕ → ℕ → ℕ → ℕ
moved_bits width immr imms a =
    if nat_le immr imms then low width a / 2 ^ immr % 2 ^ (imms - immr + 1)
    else low width a % 2 ^ (imms + 1) * 2 ^ (width - immr)

-- how many bits there are up to the topmost that is moved, and from which on they are moved
abbrev pub moved_top : ℕ → ℕ → ℕ → ℕ
moved_top width immr imms = if nat_le immr imms then imms - immr + 1 else imms + 1 + (width - immr)

abbrev pub moved_place : ℕ → ℕ → ℕ → ℕ
moved_place width immr imms = if nat_le immr imms then 0 else width - immr

-- the size of the repeated element of a logical immediate, by the highest 1 of the bits N and not imms; 0 where
-- there is none of two bits or more (DecodeBitMasks)
abbrev pub element_size : ℕ → ℕ → ℕ
element_size n imms =
    if n == 1 then 64
    else if nat_lt imms 32 then 32
    else if nat_lt imms 48 then 16
    else if nat_lt imms 56 then 8
    else if nat_lt imms 60 then 4
    else if nat_lt imms 62 then 2
    else 0

-- a logical immediate: an element of imms and one more ones, turned round by immr, both modulo the element's size, and repeated (DecodeBitMasks)
abbrev pub bit_mask : ℕ → ℕ → ℕ → ℕ → ℕ
bit_mask width n immr imms =
    rotated (element_size n imms) (2 ^ (imms % element_size n imms + 1) - 1) (immr % element_size n imms)
    * ((2 ^ width - 1) / (2 ^ element_size n imms - 1))

-- ---- division and products

-- a number without its sign, in two's complement
abbrev pub magnitude : ℕ → ℕ → ℕ
magnitude width a = if is_negative width (low width a) then 2 ^ width - low width a else low width a

-- the quotient, 0 where it is by 0 (UDIV)
abbrev pub unsigned_quotient : ℕ → ℕ → ℕ → ℕ
unsigned_quotient width a b = if low width b == 0 then 0 else low width a / low width b

-- the quotient of signed numbers toward 0, and 0 where it is by 0; the least number by -1 is itself (SDIV)
abbrev pub signed_quotient : ℕ → ℕ → ℕ → ℕ
signed_quotient width a b =
    if low width b == 0 then 0
    else if same (is_negative width (low width a)) (is_negative width (low width b)) then magnitude width a / magnitude width b
    else low width (2 ^ width - magnitude width a / magnitude width b)

-- ---- bits and bytes turned round, and counts

-- the bytes of each part of a number turned round, for so many parts
abbrev pub swapped_parts : int.Width → ℕ → ℕ → ℕ
swapped_parts part zero a = 0
swapped_parts part (suc count) a = swap_bytes part (a % 2 ^ bits part) + swapped_parts part count (a / 2 ^ bits part) * 2 ^ bits part

-- how many bits directly after the top bit equal it (CountLeadingSignBits)
abbrev pub leading_signs : ℕ → ℕ → ℕ
leading_signs width a =
    if is_negative width a then count_leading_zeros (width - 1) (2 ^ width - 1 - a) else count_leading_zeros (width - 1) a

-- RBIT, REV16, REV32, REV, CLZ, CLS
abbrev pub one_source_value : ℕ → ℕ → ℕ → ℕ
one_source_value opcode width a =
    if opcode == 0 then reverse_bits_onto width (low width a) 0
    else if opcode == 1 then swapped_parts w16 (width / 16) (low width a)
    else if opcode == 2 then swapped_parts w32 (width / 32) (low width a)
    else if opcode == 3 then swapped_parts w64 (width / 64) (low width a)
    else if opcode == 4 then count_leading_zeros width (low width a)
    else leading_signs width (low width a)

-- UDIV, SDIV, and shifts by a register
abbrev pub two_sources_value : ℕ → ℕ → ℕ → ℕ → ℕ
two_sources_value opcode width a b =
    if opcode == 2 then unsigned_quotient width a b
    else if opcode == 3 then signed_quotient width a b
    else shifted width (opcode - 8) a (low width b % width)

-- AND, ORR, EOR, and AND again for ANDS
abbrev pub logic_value : ℕ → ℕ → ℕ → ℕ
logic_value opc a b = if opc == 1 then bit_or a b else if opc == 2 then bit_xor a b else bit_and a b

-- ---- number functions

-- a function that leaves its operand as it is, whatever it stands for
abbrev pub is_copy : Unary → Bool
is_copy (Shift kind amount) = amount == 0
is_copy (Extend option amount) = (option % 4 == 3) && (amount == 0)
is_copy f = false

-- what a number function of one number gives
abbrev pub unary_value : Unary → ℕ → ℕ → ℕ
unary_value (Insert value at) width a = low width (a / 2 ^ (at + 16) * 2 ^ (at + 16) + value * 2 ^ at + a % 2 ^ at)
unary_value (Shift kind amount) width a = shifted width kind a amount
unary_value (Extend option amount) width a = low width (extended width option a * 2 ^ amount)
unary_value (Bitfield signed immr imms) width a =
    if signed then sign_extended (moved_top width immr imms) width (moved_bits width immr imms a) else moved_bits width immr imms a
unary_value (Addend sum) width a = addend sum width a
unary_value (OneSource opcode) width a = one_source_value opcode width a
unary_value (Bit place) width a = a / 2 ^ place % 2

-- an operand: a copy, or what a number function gives
abbrev pub operand_value : Unary → ℕ → ℕ → ℕ
operand_value f width a = if is_copy f then a else unary_value f width a

-- what a number function of two numbers gives
abbrev pub binary_value : Binary → ℕ → ℕ → ℕ → ℕ
binary_value (Logic opc inverted) width a b = logic_value opc (low width a) (if inverted then inverse width b else low width b)
binary_value (TwoSources opcode) width a b = two_sources_value opcode width a b
binary_value (BitfieldInto immr imms) width a b =
    low width a / 2 ^ moved_top width immr imms * 2 ^ moved_top width immr imms + moved_bits width immr imms b + a % 2 ^ moved_place width immr imms
binary_value (Extract place) width a b = low width (low width b / 2 ^ place + low width a * 2 ^ (width - place))
binary_value Product width a b = low width (low width a * low width b)
binary_value (LongProduct signed) width a b = if signed then low 64 (sign_extended 32 64 a * sign_extended 32 64 b) else low 32 a * low 32 b
binary_value (HighProduct signed) width a b =
    if signed then low 128 (sign_extended 64 128 a * sign_extended 64 128 b) / 2 ^ 64 else low 64 a * low 64 b / 2 ^ 64
binary_value (PlainSum sum) width a b = sum_value sum width a b

-- ---- choices and tests

-- the chosen of two values (CSEL, CSINC, CSINV, CSNEG)
abbrev pub chosen : Bool → Bool → ℕ → ℕ → ℕ → ℕ → ℕ
chosen invert more width test a b = if test == 0 then low width ((if invert then inverse width b else b) + bit_of more) else low width a

-- whether a number is 0, or isn't, as 1 or 0
abbrev pub zero_bit : Bool → ℕ → ℕ → ℕ
zero_bit negated width a = bit_of (if negated then not (low width a == 0) else low width a == 0)
