use Rattle.std.proofs.Common.{length}
use Rattle.sym_step.proofs.runner.Runner.+reserve.Given as goal

abbrev pub decreases-reserve : goal.decreases-reserve
decreases-reserve l = length l.ops.now
