use Rattle.std.proofs.Common.{◌≡◌, map, take}
use Rattle.aux_tables.specs.ModuleTables.{tables_of}
use Rattle.edge_repair.specs.Repaired.{repaired_table}
use Rattle.new_tables.proofs.tables.new_tables.Given as goal

abbrev pub invariant-loop-table : goal.invariant-loop-table
invariant-loop-table l = l.made.items ≡ map (repaired_table l.repair.module.now (tables_of l.repair.module.now) l.repair.patches.now) (take l.table-index l.table-items)
