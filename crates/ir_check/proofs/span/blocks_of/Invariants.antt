use Rattle.std.proofs.Common.{◌≡◌, map, take}
use Rattle.node_arena.specs.Plain.{plain_block}
use Rattle.ir_check.proofs.span.blocks_of.Given as goal

abbrev pub invariant-loop-block : goal.invariant-loop-block
invariant-loop-block l = l.blocks.items ≡ map (plain_block l.graph) (take l.block-index l.block-items)
