use Rattle.std.proofs.Common.{◌≤◌, length}
use Rattle.ir_check.proofs.checking.module_count.Given as goal

abbrev pub invariant-loop-count : goal.invariant-loop-count
invariant-loop-count l = l.count ≤ length l.graph.modules
