use Rattle.std.proofs.Common.{◌∙◌}
use Rattle.std.proofs.lemmas.List.{take_more}
use Rattle.node_arena.proofs.Placed.{appended-more}
use Rattle.node_arena.proofs.draft.place_blocks.Goals as goal

pub loop-block-preserved : goal.loop-block-preserved
loop-block-preserved c =
    rw (take_more c.args.from.now c.loop-block.block-index c.block-item.result c.loop-block-test.true, ← c.block-item.is, c.in_ok-push.ensures.items)
    (appended-more _ _ _ _ _ c.loop-block.blocks.items _ _ _ c.loop-block.invariant (c.len.ensures ∙ c.loop-block.blocks.ok.0) c.in_ok-push-2.ensures.items)
