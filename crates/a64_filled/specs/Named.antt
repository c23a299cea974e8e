-- What the operand of a word names: a target, its page, or its low twelve bits.
use Rattle.std.specs.Prelude.{ℕ, ◌+◌, ◌*◌, ◌%◌, ◌^◌}
use Rattle.a64_inst.specs.declared.kind.Kind.{Kind}
use Rattle.a64_inst.specs.declared.kind.Kind.TheVariants.{Rel26, Rel19, Rel14, Adr, Page, Low12}
use Rattle.a64_inst.specs.Fitting.{page_of}
use Rattle.a64_inst.specs.Numbers.{sign_extended}

-- a number in the operand as instructions take it: units with their sign to 64 bits, and low bits without
abbrev pub operand_offset : Kind → ℕ → ℕ
operand_offset Rel26 n = sign_extended 28 64 (n * 4)
operand_offset Rel19 n = sign_extended 21 64 (n * 4)
operand_offset Rel14 n = sign_extended 16 64 (n * 4)
operand_offset Adr n = sign_extended 21 64 n
operand_offset Page n = sign_extended 33 64 (n * 4096)
operand_offset (Low12 unit) n = n * unit

-- what the operand of a word at a place names by it
abbrev pub named : Kind → ℕ → ℕ → ℕ
named Page place n = (page_of place + operand_offset Page n) % 2 ^ 64
named (Low12 unit) place n = operand_offset (Low12 unit) n
named Rel26 place n = (place + operand_offset Rel26 n) % 2 ^ 64
named Rel19 place n = (place + operand_offset Rel19 n) % 2 ^ 64
named Rel14 place n = (place + operand_offset Rel14 n) % 2 ^ 64
named Adr place n = (place + operand_offset Adr n) % 2 ^ 64

-- what of a target a word of the kind names
abbrev pub part_named : Kind → ℕ → ℕ
part_named Page target = page_of target
part_named (Low12 unit) target = target % 4096
part_named Rel26 target = target
part_named Rel19 target = target
part_named Rel14 target = target
part_named Adr target = target
