use Rattle.std.proofs.Common.{length}
use Rattle.sym_step.proofs.runner.Runner.+start.Given as goal

abbrev pub decreases-start : goal.decreases-start
decreases-start l = length l.ops.now
