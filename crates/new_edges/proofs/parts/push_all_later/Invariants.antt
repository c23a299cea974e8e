use Rattle.std.proofs.Common.{◌≡◌, ◌++◌, take}
use Rattle.std.specs.List.{flat_map}
use Rattle.new_edges.specs.Parts.{later_ids}
use Rattle.new_edges.proofs.parts.push_all_later.Given as goal

abbrev pub invariant-loop-block : goal.invariant-loop-block
invariant-loop-block l = l.ids.items ≡ l.initial.ids.items ++ flat_map (later_ids l.module) (take l.block-index l.blocks)
