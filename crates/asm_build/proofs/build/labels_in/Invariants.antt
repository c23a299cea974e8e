use Rattle.asm_build.proofs.Built.{AreLabels}
use Rattle.asm_build.proofs.build.labels_in.Given as goal

abbrev pub invariant-loop-line : goal.invariant-loop-line
invariant-loop-line l = AreLabels l.lines l.labels l.place l.line-index
