use Rattle.std.proofs.Common.{◌≡◌, ◌++◌, map, take}
use Rattle.sym_expr.specs.Program.{function_stretch}
use Rattle.module_program.proofs.functions.add_functions.Given as goal

abbrev pub invariant-loop-function : goal.invariant-loop-function
invariant-loop-function l = l.stretches.items ≡ l.initial.stretches.items ++ map (function_stretch l.context.module l.context.patches.now) (take l.function-index l.function-items)
