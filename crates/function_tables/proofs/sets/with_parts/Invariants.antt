use Rattle.std.proofs.Common.{◌≡◌, map, drop}
use Rattle.aux_codec.specs.Value.{value_of, values}
use Rattle.edge_repair.specs.Sets.{with_parts}
use Rattle.function_tables.specs.Later.{later_of}
use Rattle.function_tables.proofs.Members.{members_before}
use Rattle.function_tables.proofs.sets.with_parts.Given as goal

abbrev pub invariant-loop-member : goal.invariant-loop-member
invariant-loop-member l = members_before (map value_of l.made.items) (with_parts (later_of l.later) (values (map value_of (drop l.member-index l.members)))) ≡ with_parts (later_of l.later) (values (map value_of l.members))
