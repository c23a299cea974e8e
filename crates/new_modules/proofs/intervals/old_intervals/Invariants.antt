use Rattle.std.proofs.Common.{◌≡◌, map, take}
use Rattle.aux_tables.specs.ModuleTables.{tables_of}
use Rattle.rewrite.specs.Rewritten.{new_interval}
use Rattle.new_modules.proofs.intervals.old_intervals.Given as goal

abbrev pub invariant-loop-k : goal.invariant-loop-k
invariant-loop-k l = l.made.items ≡ map (new_interval l.inserts.module.now (tables_of l.inserts.module.now) l.inserts.patches.now) (take l.k l.intervals)
