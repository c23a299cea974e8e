use Rattle.std.proofs.Common.{◌≡◌, ◌++◌, map, drop}
use Rattle.aux_codec.specs.Value.{entry_of, entries}
use Rattle.aux_tables.specs.ModuleTables.{size_entry}
use Rattle.aux_tables.proofs.Taken.{taken}
use Rattle.aux_tables.proofs.entries.sizes_in.Given as goal

abbrev pub invariant-loop-pair : goal.invariant-loop-pair
invariant-loop-pair l = l.sizes.entries ++ taken size_entry (entries (map entry_of (drop l.pair-index l.pairs))) ≡ taken size_entry (entries (map entry_of l.pairs))
