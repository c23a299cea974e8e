use Rattle.std.proofs.Common.{map, sym, ◌∙◌}
use Rattle.aux_codec.specs.Value.{entry_of, entries}
use Rattle.aux_tables.specs.ModuleTables.{size_entry}
use Rattle.aux_tables.proofs.OwnKeys.{place_eq, place_eq-Decides}
use Rattle.aux_tables.proofs.Taken.{taken, own_taken, size_keys, place_value, skipped, put}
use Rattle.aux_tables.proofs.entries.sizes_in.Goals as goal
use Rattle.aux_tables.proofs.entries.sizes_in.Goals.{in-Some+in_ok-insert, in_default}

pub loop-pair-preserved : goal.loop-pair-preserved
loop-pair-preserved c =
    let all = taken size_entry (entries (map entry_of c.args.pairs.now)) in
    let own = own_taken place_value size_entry size_keys (entries (map entry_of c.args.pairs.now)) c.requires in
    elim c.match-size_entry.branch [
      | in-Some+in_ok-insert w ↦
          rw w.sizes-is (put place_eq place_eq-Decides size_entry c.args.pairs.now c.loop-pair.pair-index c.pair-item.result c.loop-pair.sizes.entries w.insert.new.self.entries all w.in-Some.place w.in-Some.size
          c.loop-pair-test.true c.pair-item.is (sym w.in-Some.is ∙ c.size_entry.ensures) w.in_ok-insert.ensures.entries own c.loop-pair.invariant)
      | in_default w ↦
          rw w.sizes-is (skipped size_entry c.args.pairs.now c.loop-pair.pair-index c.pair-item.result c.loop-pair.sizes.entries all c.loop-pair-test.true c.pair-item.is (sym c.size_entry.ensures ∙ w.in_default.is) c.loop-pair.invariant)
    ]
