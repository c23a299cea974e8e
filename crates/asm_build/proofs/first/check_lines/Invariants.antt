use Rattle.std.proofs.Common.{◌≡◌}
use Rattle.asm_build.proofs.Passing.{Passed}
use Rattle.asm_build.proofs.first.check_lines.Given as goal

abbrev pub invariant-loop-line : goal.invariant-loop-line
invariant-loop-line l = record { passed : Passed l.given l.seen l.line-index; number : l.number ≡ l.line-index }
