-- What an expression makes of a word: its operand gets the target's distance, page or low twelve bits.
use Rattle.std.specs.Prelude.{ℕ, ◌+◌, ◌*◌, ◌/◌, ◌%◌, ◌^◌, ℤ, pos, ◌-ℤ◌, Bool, ◌==◌, ◌&&◌, not, int_le, unsigned_abs, if◌then◌else◌, Result, Ok, Err}
use Rattle.std.specs.Int.{int_div_euclid, int_rem_euclid}
use Rattle.a64_inst.specs.declared.filling.FitFault.{FitFault}
use Rattle.a64_inst.specs.declared.filling.FitFault.TheVariants.{Range, Unaligned}
use Rattle.a64_inst.specs.declared.kind.Bits.{Bits}
use Rattle.a64_inst.specs.declared.kind.Kind.{Kind}
use Rattle.a64_inst.specs.declared.kind.Kind.TheVariants.{Rel26, Rel19, Rel14, Adr, Page, Low12}
use Rattle.a64_inst.specs.declared.kind.Operand.{Operand}
use Rattle.a64_inst.specs.Kinds.{operand}

-- the start of the page of an address
abbrev pub page_of : ℕ → ℕ
page_of address = address / 4096 * 4096

-- what an operand takes of a target, for a word at this place
abbrev pub operand_value : Kind → ℕ → ℕ → ℤ
operand_value Page place target = pos (page_of target) -ℤ pos (page_of place)
operand_value (Low12 unit) place target = pos (target % 4096)
operand_value Rel26 place target = pos target -ℤ pos place
operand_value Rel19 place target = pos target -ℤ pos place
operand_value Rel14 place target = pos target -ℤ pos place
operand_value Adr place target = pos target -ℤ pos place

-- the value lies in the operand's range
abbrev pub is_in_range : Operand → ℤ → Bool
is_in_range o value = int_le o.least value && int_le value o.most

-- the value is a multiple of the operand's unit
abbrev pub is_aligned : Operand → ℤ → Bool
is_aligned o value = unsigned_abs (int_rem_euclid value (pos o.unit)) == 0

-- how many units the value has, modulo the bits of the operand
abbrev pub units_of : Operand → ℤ → ℕ
units_of o value = unsigned_abs (int_rem_euclid (int_div_euclid value (pos o.unit)) (pos (2 ^ (o.low.width + o.high.width))))

-- the word with these bits replaced by a number, and all others kept
abbrev pub with_bits : Bits → ℕ → ℕ → ℕ
with_bits b n word = word / 2 ^ (b.place + b.width) * 2 ^ (b.place + b.width) + n * 2 ^ b.place + word % 2 ^ b.place

-- the word with a number in the operand's bits
abbrev pub with_operand : Operand → ℕ → ℕ → ℕ
with_operand o n word = with_bits o.high (n / 2 ^ o.low.width) (with_bits o.low (n % 2 ^ o.low.width) word)

-- the word with the operand that the target gives it
abbrev pub fit : Kind → ℕ → ℕ → ℕ → Result ℕ FitFault
fit kind place target word =
    if not (is_in_range (operand kind) (operand_value kind place target)) then Err (Range (operand_value kind place target))
    else if not (is_aligned (operand kind) (operand_value kind place target)) then Err (Unaligned (operand_value kind place target))
    else Ok (with_operand (operand kind) (units_of (operand kind) (operand_value kind place target)) word)
