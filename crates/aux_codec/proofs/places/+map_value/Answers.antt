use Rattle.std.proofs.Common.{rules, map, get_or, arith}
use Rattle.aux_codec.specs.declared.value.AuxPair.{roll-AuxPair}
use Rattle.aux_codec.specs.Value.{value_of, entry_of}
use Rattle.aux_codec.proofs.Replacing.{goes_on, IsReplaced, IsEntryReplaced, all_replaced, all_entries_replaced, pair_replaced}
use Rattle.aux_codec.proofs.places.+map_value.Goals as goal

pub map_each-loop-member-preserved : goal.map_each-loop-member-preserved
map_each-loop-member-preserved g t c = (
  search rules,
  goes_on value_of (IsReplaced (g.P.Places.placed c.args.to.now)) c.loop-member.member-index (map value_of c.args.members.now) c.loop-member.members c.member-item.result c.map_value.new.value
      (omega (arith, c.loop-member-test.true, c.loop-member.auto.members)) c.loop-member.invariant.1 (c.map_value.ensures.value, c.map_value.ensures.fit),
)

pub map_each-returns-clause-value : goal.map_each-returns-clause-value
map_each-returns-clause-value g t c = (all_replaced (g.P.Places.placed c.args.to.now) c.loop-member.member-index c.args.members.now c.loop-member.members c.loop-member-test.false c.loop-member.invariant.1).0

pub map_each-returns-clause-fit : goal.map_each-returns-clause-fit
map_each-returns-clause-fit g t c = (all_replaced (g.P.Places.placed c.args.to.now) c.loop-member.member-index c.args.members.now c.loop-member.members c.loop-member-test.false c.loop-member.invariant.1).1

pub map_entries-loop-pair-preserved : goal.map_entries-loop-pair-preserved
map_entries-loop-pair-preserved g t c = (
  search rules,
  let new = roll-AuxPair (record { key = c.map_value.new.value; value = c.map_value-in-loop-pair.new.value }) in
      goes_on entry_of (IsEntryReplaced (g.P.Places.placed c.args.to.now)) c.loop-pair.pair-index (map entry_of c.args.pairs.now) c.loop-pair.pairs c.pair-item.result new
      (omega (arith, c.loop-pair-test.true, c.loop-pair.auto.pairs)) c.loop-pair.invariant.1
      (pair_replaced (g.P.Places.placed c.args.to.now) (get_or c.loop-pair.pairs c.loop-pair.pair-index c.pair-item.result) new (c.map_value.ensures.value, c.map_value.ensures.fit) (c.map_value-in-loop-pair.ensures.value, c.map_value-in-loop-pair.ensures.fit)),
)

pub map_entries-returns-clause-value : goal.map_entries-returns-clause-value
map_entries-returns-clause-value g t c = (all_entries_replaced (g.P.Places.placed c.args.to.now) c.loop-pair.pair-index c.args.pairs.now c.loop-pair.pairs c.loop-pair-test.false c.loop-pair.invariant.1).0

pub map_entries-returns-clause-fit : goal.map_entries-returns-clause-fit
map_entries-returns-clause-fit g t c = (all_entries_replaced (g.P.Places.placed c.args.to.now) c.loop-pair.pair-index c.args.pairs.now c.loop-pair.pairs c.loop-pair-test.false c.loop-pair.invariant.1).1
