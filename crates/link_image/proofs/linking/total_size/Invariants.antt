use Rattle.std.proofs.Common.{◌≡◌, ◌+◌, drop, sum_by}
use Rattle.sym_expr.specs.Placing.{stretch_size}
use Rattle.link_image.proofs.linking.total_size.Given as goal

abbrev pub invariant-loop-stretch : goal.invariant-loop-stretch
invariant-loop-stretch l = l.total + sum_by stretch_size (drop l.stretch-index l.program.stretches) ≡ sum_by stretch_size l.program.stretches
