use Rattle.std.proofs.Common.{◌≡◌, ◌++◌, map, take}
use Rattle.new_edges.proofs.parts.push_ids.Given as goal
use Rattle.rewrite.specs.Identifiers.{part_id}

abbrev pub invariant-loop-part : goal.invariant-loop-part
invariant-loop-part l = l.ids.items ≡ l.initial.ids.items ++ map (part_id l.module l.block) (take l.part-index l.parts)
