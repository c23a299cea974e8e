use Rattle.std.proofs.Common.{◌≡◌, ◌++◌, map, drop}
use Rattle.aux_codec.specs.Value.{value_of, entry_of, values, entries}
use Rattle.taken_ids.specs.Named.{ids_of_each, ids_of_entries}
use Rattle.taken_ids.proofs.named.+put_ids.Given as goal

-- what is there so far, before what is left, is all behind what stood there
abbrev pub invariant-put_each-loop-member : goal.invariant-put_each-loop-member
invariant-put_each-loop-member l =
    l.out.items ++ ids_of_each (values (map value_of (drop l.member-index l.members))) ≡ l.fn.out.items ++ ids_of_each (values (map value_of l.members))

abbrev pub invariant-put_entries-loop-pair : goal.invariant-put_entries-loop-pair
invariant-put_entries-loop-pair l =
    l.out.items ++ ids_of_entries (entries (map entry_of (drop l.pair-index l.pairs))) ≡ l.fn.out.items ++ ids_of_entries (entries (map entry_of l.pairs))
