use Rattle.std.proofs.Common.{◌≡◌}
use Rattle.asm_build.specs.Kept.{has_label}
use Rattle.asm_build.proofs.Naming.{AreNamed}
use Rattle.asm_build.proofs.second.check_names.Given as goal

abbrev pub invariant-loop-line : goal.invariant-loop-line
invariant-loop-line l = record { named : AreNamed (has_label l.labels) l.lines l.line-index; number : l.number ≡ l.line-index }
