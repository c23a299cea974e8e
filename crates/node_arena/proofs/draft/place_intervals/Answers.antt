use Rattle.std.proofs.lemmas.List.{take_more}
use Rattle.node_arena.proofs.Placed.{intervals-more}
use Rattle.node_arena.proofs.draft.place_intervals.Goals as goal

pub loop-interval-preserved : goal.loop-interval-preserved
loop-interval-preserved c =
    rw (take_more c.args.from.now c.loop-interval.interval-index c.interval-item.result c.loop-interval-test.true, ← c.interval-item.is, c.in_ok-push.ensures.items)
    (intervals-more _ _ _ _ _ _ _ _ c.loop-interval.invariant c.in_ok-place_interval.ensures)
