use Rattle.std.proofs.Common.{◌++◌, map}
use Rattle.aux_codec.specs.Value.{value_of, entry_of, values, entries}
use Rattle.taken_ids.specs.Named.{ids_of_each, ids_of_entries}
use Rattle.taken_ids.proofs.IdLists.{each_goes_on, entries_go_on}
use Rattle.taken_ids.proofs.named.+put_ids.Goals as goal

pub put_each-loop-member-preserved : goal.put_each-loop-member-preserved
put_each-loop-member-preserved t c =
    rw c.in_ok-put_ids.ensures (each_goes_on c.args.members.now c.loop-member.member-index c.member-item.result c.loop-member.out.items
    (c.args.out.now.items ++ ids_of_each (values (map value_of c.args.members.now))) c.loop-member-test.true c.member-item.is c.loop-member.invariant)

pub put_entries-loop-pair-preserved : goal.put_entries-loop-pair-preserved
put_entries-loop-pair-preserved t c =
    rw (c.in_ok-put_ids-2.ensures, c.in_ok-put_ids.ensures) (entries_go_on c.args.pairs.now c.loop-pair.pair-index c.pair-item.result c.loop-pair.out.items
    (c.args.out.now.items ++ ids_of_entries (entries (map entry_of c.args.pairs.now))) c.loop-pair-test.true c.pair-item.is c.loop-pair.invariant)
