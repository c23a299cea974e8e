use Rattle.std.proofs.Common.{◌≡◌, ◌≤◌, ◌+◌, ◌*◌, ◌++◌, take, drop, sum_by}
use Rattle.sym_expr.specs.declared.shape.ShapeSpot.{ShapeSpot}
use Rattle.sym_expr.specs.Layouts.{places_from, end_from}
use Rattle.layout_plan.proofs.default.default_layout.Given as goal

abbrev pub invariant-loop-spot : goal.invariant-loop-spot
invariant-loop-spot l = record {
  placed : l.places ++ places_from l.cursor (drop l.spot-index l.shape.spots) ≡ places_from 65536 l.shape.spots;
  ends : end_from l.cursor (drop l.spot-index l.shape.spots) ≡ end_from 65536 l.shape.spots;
  near : l.cursor ≤ 65536 + sum_by (λ (s : ShapeSpot). s.size) (take l.spot-index l.shape.spots) + 4096 * l.spot-index;
}
