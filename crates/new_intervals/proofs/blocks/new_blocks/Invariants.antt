use Rattle.std.proofs.Common.{◌≡◌, ◌++◌, drop}
use Rattle.std.specs.List.{flat_map}
use Rattle.std.specs.Str.{bytes_eq}
use Rattle.indexmap.specs.IndexMap.{get}
use Rattle.new_intervals.specs.Blocks.{block_where}
use Rattle.new_intervals.specs.Placed.{spot_at}
use Rattle.new_intervals.proofs.blocks.new_blocks.Given as goal

abbrev pub invariant-loop-block : goal.invariant-loop-block
invariant-loop-block l = l.out.items ++ flat_map (block_where l.module (spot_at l.spots (get bytes_eq l.index))) (drop l.block-index l.blocks) ≡ flat_map (block_where l.module (spot_at l.spots (get bytes_eq l.index))) l.blocks
