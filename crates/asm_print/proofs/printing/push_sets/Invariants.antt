use Rattle.std.proofs.Common.{◌≡◌, ◌++◌, take}
use Rattle.std.specs.List.{flat_map}
use Rattle.asm_print.specs.Printed.{set_line}
use Rattle.asm_print.proofs.printing.push_sets.Given as goal

abbrev pub invariant-loop-symbol : goal.invariant-loop-symbol
invariant-loop-symbol l = l.out ≡ l.initial.out ++ flat_map (set_line l.context.module) (take l.symbol-index l.symbol-items)
