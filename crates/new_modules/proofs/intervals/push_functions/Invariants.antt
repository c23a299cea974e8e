use Rattle.std.proofs.Common.{◌≡◌, ◌++◌, map, take}
use Rattle.rewrite.specs.Functions.{function_interval}
use Rattle.new_modules.proofs.intervals.push_functions.Given as goal

abbrev pub invariant-loop-function : goal.invariant-loop-function
invariant-loop-function l = l.intervals.items ≡ l.initial.intervals.items ++ map (function_interval l.module) (take l.function-index l.functions)
