use Rattle.std.proofs.Common.{◌∙◌}
use Rattle.std.proofs.lemmas.List.{take_more}
use Rattle.node_arena.proofs.Placed.{appended-more}
use Rattle.node_arena.proofs.draft.place_proxies.Goals as goal

pub loop-uuid-preserved : goal.loop-uuid-preserved
loop-uuid-preserved c =
    rw (take_more c.args.from.now c.loop-uuid.uuid-index c.uuid-item.result c.loop-uuid-test.true, ← c.uuid-item.is, c.in_ok-push.ensures.items)
    (appended-more _ _ _ _ _ c.loop-uuid.proxies.items _ _ _ c.loop-uuid.invariant (c.len.ensures ∙ c.loop-uuid.proxies.ok.0) c.in_ok-push-2.ensures.items)
