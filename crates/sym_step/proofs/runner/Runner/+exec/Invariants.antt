use Rattle.std.proofs.Common.{length}
use Rattle.sym_step.proofs.runner.Runner.+exec.Given as goal

abbrev pub decreases-exec : goal.decreases-exec
decreases-exec l = length l.ops.now
