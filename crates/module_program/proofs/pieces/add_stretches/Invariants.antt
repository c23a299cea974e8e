use Rattle.std.proofs.Common.{◌≡◌, ◌++◌, map, take}
use Rattle.sym_expr.specs.Program.{stretch}
use Rattle.module_program.proofs.pieces.add_stretches.Given as goal

abbrev pub invariant-loop-interval : goal.invariant-loop-interval
invariant-loop-interval l = l.stretches.items ≡ l.initial.stretches.items ++ map (stretch l.context.module l.context.tables l.context.patches.now) (take l.interval-index l.interval-items)
