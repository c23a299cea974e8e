use Rattle.std.proofs.Common.{◌≡◌, ◌++◌, take}
use Rattle.std.specs.List.{flat_map}
use Rattle.new_edges.specs.Parts.{block_edges}
use Rattle.new_edges.proofs.parts.push_blocks.Given as goal

abbrev pub invariant-loop-block : goal.invariant-loop-block
invariant-loop-block l = l.edges.items ≡ l.initial.edges.items ++ flat_map (block_edges l.context.module.now l.context.patches.now) (take l.block-index l.blocks)
