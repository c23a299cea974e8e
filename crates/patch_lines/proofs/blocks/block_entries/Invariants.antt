use Rattle.std.proofs.Common.{◌≡◌, map, take}
use Rattle.patch_lines.specs.Entries.{block_entry}
use Rattle.patch_lines.proofs.blocks.block_entries.Given as goal

abbrev pub invariant-loop-block : goal.invariant-loop-block
invariant-loop-block l = l.entries.items ≡ map block_entry (take l.block-index l.blocks)
