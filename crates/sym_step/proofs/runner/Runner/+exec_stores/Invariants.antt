use Rattle.std.proofs.Common.{length}
use Rattle.sym_step.proofs.runner.Runner.+exec_stores.Given as goal

abbrev pub decreases-exec_stores : goal.decreases-exec_stores
decreases-exec_stores l = length l.ops.now
