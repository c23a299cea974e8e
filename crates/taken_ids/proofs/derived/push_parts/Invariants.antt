use Rattle.std.proofs.Common.{◌≡◌, ◌++◌, map, take}
use Rattle.taken_ids.specs.Identifiers.{part_id}
use Rattle.taken_ids.proofs.derived.push_parts.Given as goal

abbrev pub invariant-loop-part : goal.invariant-loop-part
invariant-loop-part l = l.out.items ≡ l.initial.out.items ++ map (part_id l.module l.block) (take l.part-index l.parts)
