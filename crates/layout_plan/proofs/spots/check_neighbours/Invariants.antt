use Rattle.std.proofs.Common.{◌≡◌, IfSome, drop}
use Rattle.sym_expr.specs.Layouts.{IsInside}
use Rattle.layout_plan.specs.Faults.{overlap_fault}
use Rattle.layout_plan.proofs.Neighbours.{overlap_behind}
use Rattle.layout_plan.proofs.spots.check_neighbours.Given as goal

abbrev pub invariant-loop-y : goal.invariant-loop-y
invariant-loop-y l = record {
  inside : IfSome l.before IsInside;
  rest : overlap_behind l.before (drop l.y-index l.sorted) ≡ overlap_fault l.sorted;
}
