use Rattle.std.proofs.Common.{◌∙◌}
use Rattle.layout_plan.proofs.Indexing.{known_more}
use Rattle.layout_plan.proofs.index.known_intervals.Goals as goal

pub loop-spot-preserved : goal.loop-spot-preserved
loop-spot-preserved c = λ id. c.in_ok-insert.ensures.updates.0 id ∙ known_more c.args.spots.now c.loop-spot.spot-index c.spot-item.result id _ c.loop-spot-test.true c.spot-item.is (c.loop-spot.invariant id)
