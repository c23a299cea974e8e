use Rattle.std.proofs.Common.{◌≡◌, map, take}
use Rattle.new_edges.specs.Leaving.{leaving_entry}
use Rattle.new_edges.proofs.leaving.leaving_entries.Given as goal

abbrev pub invariant-loop-block : goal.invariant-loop-block
invariant-loop-block l = l.entries.items ≡ map (leaving_entry l.module) (take l.block-index l.blocks)
