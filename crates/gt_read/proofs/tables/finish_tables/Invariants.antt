use Rattle.std.proofs.Common.{◌≡◌, ◌++◌, map}
use Rattle.gt_model.specs.Views.{table_entry}
use Rattle.gt_read.specs.Drafts.Views.{table_finished}
use Rattle.gt_read.proofs.tables.finish_tables.Given as goal

-- the tables so far and those that are left are all of them
abbrev pub invariant-loop-name : goal.invariant-loop-name
invariant-loop-name l = map table_entry l.items.items ++ map table_finished l.name-iterator ≡ map table_finished l.fn.tables.entries
