use Rattle.std.proofs.Common.{◌≡◌, ◌++◌, map, take}
use Rattle.aux_codec.specs.Value.{Id, value_of}
use Rattle.function_tables.proofs.sets.push_ids.Given as goal

abbrev pub invariant-loop-id : goal.invariant-loop-id
invariant-loop-id l = map value_of l.members.items ≡ map value_of l.initial.members.items ++ map Id (take l.id-index l.ids)
