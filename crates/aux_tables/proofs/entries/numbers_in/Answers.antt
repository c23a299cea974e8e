use Rattle.std.proofs.Common.{◌≡◌, rules, map, sym, ◌∙◌}
use Rattle.std.specs.Str.{bytes_eq}
use Rattle.std.proofs.lemmas.Slice.Eq.{bytes_eq-Decides}
use Rattle.indexmap.specs.IndexMap.{insert_entry}
use Rattle.aux_codec.specs.Value.{Id, entry_of, entries}
use Rattle.aux_tables.specs.ModuleTables.{number_entry}
use Rattle.aux_tables.proofs.Taken.{taken, own_taken, number_keys, skipped, put}
use Rattle.aux_tables.proofs.entries.numbers_in.Goals as goal
use Rattle.aux_tables.proofs.entries.numbers_in.Goals.{in-Some+in_ok-insert, in_default}

pub loop-pair-preserved : goal.loop-pair-preserved
loop-pair-preserved c =
    let all = taken number_entry (entries (map entry_of c.args.pairs.now)) in
    let own = own_taken Id number_entry number_keys (entries (map entry_of c.args.pairs.now)) c.requires in
    elim c.match-number_entry.branch [
      | in-Some+in_ok-insert w ↦
          let set : w.insert.new.self.entries ≡ insert_entry bytes_eq c.loop-pair.numbers.entries w.in-Some.id w.in-Some.number = search rules in
          rw w.numbers-is (put bytes_eq bytes_eq-Decides number_entry c.args.pairs.now c.loop-pair.pair-index c.pair-item.result c.loop-pair.numbers.entries w.insert.new.self.entries all w.in-Some.id w.in-Some.number
          c.loop-pair-test.true c.pair-item.is (sym w.in-Some.is ∙ c.number_entry.ensures) set own c.loop-pair.invariant)
      | in_default w ↦
          rw w.numbers-is (skipped number_entry c.args.pairs.now c.loop-pair.pair-index c.pair-item.result c.loop-pair.numbers.entries all c.loop-pair-test.true c.pair-item.is (sym c.number_entry.ensures ∙ w.in_default.is) c.loop-pair.invariant)
    ]
