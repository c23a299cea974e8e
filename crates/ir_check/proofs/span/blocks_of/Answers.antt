use Rattle.std.proofs.Common.{ap, ◌∙◌}
use Rattle.node_arena.specs.declared.nodes.IntervalNode.{IntervalNode}
use Rattle.ir_check.proofs.Live.{live_block_at}
use Rattle.ir_check.proofs.span.blocks_of.Goals as goal

pub block-node-requires : goal.block-node-requires
block-node-requires c =
    live_block_at c.args.graph.now c.args.id c.as_slice-block-items.result.now c.loop-block.block-index c.interval.ensures.sound c.requires
    (c.as_slice-block-items.ensures ∙ ap (λ (n : IntervalNode). n.blocks) c.interval.ensures.value) c.loop-block-test.true
