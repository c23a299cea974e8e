use Rattle.std.proofs.Common.{◌≡◌, map, take}
use Rattle.rewrite.specs.Identifiers.{part_id}
use Rattle.function_tables.proofs.later.ids_of_parts.Given as goal

abbrev pub invariant-loop-part : goal.invariant-loop-part
invariant-loop-part l = l.ids.items ≡ map (part_id l.module l.block) (take l.part-index l.parts)
