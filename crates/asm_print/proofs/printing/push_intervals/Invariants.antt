use Rattle.std.proofs.Common.{◌≡◌, ◌++◌, take}
use Rattle.std.specs.List.{flat_map}
use Rattle.aux_tables.specs.ModuleTables.{tables_of}
use Rattle.asm_print.specs.Printed.{interval_lines}
use Rattle.asm_print.proofs.printing.push_intervals.Given as goal

abbrev pub invariant-loop-k : goal.invariant-loop-k
invariant-loop-k l = l.out ≡ l.initial.out ++ flat_map (interval_lines l.context.module (tables_of l.context.module)) (take l.k l.intervals)
