use Rattle.std.proofs.Common.{◌≡◌, ◌++◌, take}
use Rattle.taken_ids.specs.Named.{tables_ids}
use Rattle.taken_ids.proofs.named.push_tables.Given as goal

abbrev pub invariant-loop-table : goal.invariant-loop-table
invariant-loop-table l = l.out.items ≡ l.initial.out.items ++ tables_ids (take l.table-index l.tables)
