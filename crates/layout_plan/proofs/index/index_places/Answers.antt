use Rattle.std.proofs.Common.{◌≡◌, ◌∙◌, ap, sym, false, take}
use Rattle.std.specs.Option.{is_some}
use Rattle.sym_expr.specs.Layouts.{place_in}
use Rattle.layout_plan.proofs.Indexing.{place_more, repeated_more}
use Rattle.layout_plan.proofs.index.index_places.Goals as goal

pub loop-place-preserved : goal.loop-place-preserved
loop-place-preserved c =
    let p = c.place-item.result in
    let new : is_some (place_in (take c.loop-place.place-index c.args.places.now) p.interval) ≡ false =
    ap is_some (sym (c.loop-place.invariant.held p.interval) ∙ sym c.in_ok-insert.ensures.old) ∙ sym c.is_some.ensures ∙ c.if-is_some.false in
    record {
      held = λ id. c.in_ok-insert.ensures.updates.0 id ∙ place_more c.args.places.now c.loop-place.place-index p id _ c.loop-place-test.true c.place-item.is new (c.loop-place.invariant.held id);
      repeated = repeated_more c.args.places.now c.loop-place.place-index p c.loop-place-test.true c.place-item.is new ∙ c.loop-place.invariant.repeated;
    }
