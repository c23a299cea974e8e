-- What the labels that are written name.
use Rattle.std.specs.Prelude.{ℕ, nat_lt, if◌then◌else◌, List, Option, Some, None}
use Rattle.asm_lines.specs.declared.line.AsmName.{AsmName}

-- the ordinal is written from the second symbol of a name on
abbrev pub ordinal_in : ℕ → Option ℕ
ordinal_in k = if nat_lt 1 k then Some k else None

abbrev pub label : List ℕ → ℕ → AsmName
label name k = record { name = name; ordinal = ordinal_in k }
