-- What the operations of an instruction keep to, so that each can be done: amounts and places within their widths.
use Rattle.std.specs.Prelude.{ℕ, ◌%◌, Bool, true, ◌==◌, ◌&&◌, ◌||◌, not, nat_lt}
use Rattle.a64_inst.specs.declared.operations.Width.{Width}
use Rattle.a64_inst.specs.declared.operations.Unary.{Unary}
use Rattle.a64_inst.specs.declared.operations.Unary.TheVariants.{Insert, Shift, Extend, Bitfield, Addend, OneSource, Bit}
use Rattle.a64_inst.specs.declared.operations.Binary.{Binary}
use Rattle.a64_inst.specs.declared.operations.Binary.TheVariants.{Logic, TwoSources, BitfieldInto, Extract, Product, LongProduct, HighProduct, PlainSum}
use Rattle.a64_inst.specs.declared.operations.Op.{Op}
use Rattle.a64_inst.specs.declared.operations.Op.TheVariants as op
use Rattle.a64_inst.specs.Numbers.{bits_of}
use Rattle.a64_inst.specs.Reserved.{is_not_of_two}

-- both places of a bit field lie in the width
abbrev pub is_field : ℕ → ℕ → Width → Bool
is_field immr imms width = nat_lt immr (bits_of width) && nat_lt imms (bits_of width)

-- a function of one number
abbrev pub is_sound_unary : Unary → Width → Bool
is_sound_unary (Insert bits at) width = (at % 16 == 0) && nat_lt at 64
is_sound_unary (Shift kind amount) width = nat_lt amount (bits_of width)
is_sound_unary (Extend option amount) width = nat_lt option 8 && nat_lt amount 8
is_sound_unary (Bitfield signed immr imms) width = is_field immr imms width
is_sound_unary (Addend sum) width = true
is_sound_unary (OneSource opcode) width = true
is_sound_unary (Bit place) width = nat_lt place 64

-- a function of two numbers
abbrev pub is_sound_binary : Binary → Width → Bool
is_sound_binary (Logic opc inverted) width = true
is_sound_binary (TwoSources opcode) width = not (is_not_of_two opcode)
is_sound_binary (BitfieldInto immr imms) width = is_field immr imms width
is_sound_binary (Extract place) width = nat_lt place (bits_of width)
is_sound_binary Product width = true
is_sound_binary (LongProduct signed) width = true
is_sound_binary (HighProduct signed) width = true
is_sound_binary (PlainSum sum) width = true

-- 1, 2, 4 or 8 bytes
abbrev pub is_size : ℕ → Bool
is_size bytes = (bytes == 1) || ((bytes == 2) || ((bytes == 4) || (bytes == 8)))

-- an operation
abbrev pub is_sound : Op → Bool
is_sound (op.Unary function width value) = is_sound_unary function width
is_sound (op.Binary function width first second) = is_sound_binary function width
is_sound (op.Load bytes signed width at) = is_size bytes
is_sound (op.Store bytes value at) = is_size bytes
is_sound other = true
