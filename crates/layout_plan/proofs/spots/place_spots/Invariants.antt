use Rattle.std.proofs.Common.{◌≡◌, take, drop, map}
use Rattle.sym_expr.specs.Layouts.{placed}
use Rattle.layout_plan.specs.Faults.{missing_fault}
use Rattle.layout_plan.proofs.spots.place_spots.Given as goal

abbrev pub invariant-loop-spot : goal.invariant-loop-spot
invariant-loop-spot l = record {
  placed : l.spots.items ≡ map (placed l.layout) (take l.spot-index l.shape.spots);
  rest : missing_fault l.layout.places (drop l.spot-index l.shape.spots) ≡ missing_fault l.layout.places l.shape.spots;
}
