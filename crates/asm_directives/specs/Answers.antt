-- What a reader answers.
use Rattle.std.specs.Prelude.{◌≡◌, Result, Ok, Err}
use Rattle.gr_base.specs.declared.end.End.{End}
use Rattle.gr_base.specs.declared.end.End.TheVariants as ends
use Rattle.asm_read.specs.declared.fault.TextReason.{TextReason}
use Rattle.asm_lines.specs.Expressions.{Tells}

-- nothing is so, and the reason tells whether it would be with other numbers
abbrev pub RefusedBy : {A : Type 0} → (A → Type 0) → Type 0 → End TextReason → Type 0
RefusedBy P Shape ends.Memory = Unit {0}
RefusedBy {A} P Shape (ends.Fault reason) = ((x : A) → P x → ⊥) × Tells reason Shape

-- the one thing that is so, or why nothing is, unless memory ran out
abbrev pub Answers : {A : Type 0} → (A → Type 0) → Type 0 → Result A (End TextReason) → Type 0
Answers P Shape (Ok x) = P x
Answers P Shape (Err end) = RefusedBy P Shape end
