use Rattle.std.proofs.Common.{◌≡◌, map, take}
use Rattle.new_edges.specs.Loaded.{block_entry}
use Rattle.new_edges.proofs.loaded.block_entries.Given as goal

abbrev pub invariant-loop-block : goal.invariant-loop-block
invariant-loop-block l = l.entries.items ≡ map block_entry (take l.block-index l.blocks)
