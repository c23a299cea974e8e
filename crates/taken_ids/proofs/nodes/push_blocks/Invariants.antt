use Rattle.std.proofs.Common.{◌≡◌, ◌++◌, take}
use Rattle.std.specs.List.{flat_map}
use Rattle.taken_ids.specs.NodeIds.{block_ids}
use Rattle.taken_ids.proofs.nodes.push_blocks.Given as goal

abbrev pub invariant-loop-block : goal.invariant-loop-block
invariant-loop-block l = l.out.items ≡ l.initial.out.items ++ flat_map block_ids (take l.block-index l.blocks)
