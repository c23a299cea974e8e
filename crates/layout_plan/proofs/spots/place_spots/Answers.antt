use Rattle.std.proofs.Common.{◌≡◌, ◌∙◌, ap, sym, Some}
use Rattle.std.specs.Option.{is_none, option_map}
use Rattle.sym_expr.specs.declared.shape.ShapeSpot.{ShapeSpot}
use Rattle.sym_expr.specs.Layouts.{place_in}
use Rattle.layout_plan.proofs.Indexing.{find_more, placed_more}
use Rattle.layout_plan.proofs.spots.place_spots.Goals as goal

pub loop-spot-preserved : goal.loop-spot-preserved
loop-spot-preserved c =
    let s = c.spot-item.result in
    let found : place_in c.args.layout.now.places s.interval ≡ Some c.in-Some.at.now = sym (c.requires s.interval) ∙ sym c.in-Some.ensures.value in
    rw (← c.as_slice-spot-items.ensures) record {
      placed = c.in_ok-push.ensures.items ∙ placed_more c.args.layout.now c.as_slice-spot-items.result.now c.loop-spot.spot-index s c.in-Some.at.now _ c.loop-spot-test.true c.spot-item.is found (rw (← c.as_slice-spot-items.ensures) at c.loop-spot.invariant.placed);
      rest = ap (option_map _) (find_more (λ (s : ShapeSpot). is_none (place_in c.args.layout.now.places s.interval)) c.as_slice-spot-items.result.now c.loop-spot.spot-index s c.loop-spot-test.true c.spot-item.is (ap is_none found)) ∙ (rw (← c.as_slice-spot-items.ensures) at c.loop-spot.invariant.rest);
    }
