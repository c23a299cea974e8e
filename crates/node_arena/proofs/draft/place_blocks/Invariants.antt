use Rattle.std.proofs.Common.{take}
use Rattle.node_arena.specs.Placing.{PlacedBlocks}
use Rattle.node_arena.proofs.draft.place_blocks.Given as goal

abbrev pub invariant-loop-block : goal.invariant-loop-block
invariant-loop-block l = PlacedBlocks l.parent.index (take l.block-index l.from) l.initial.blocks.items l.ids.items l.blocks.items
