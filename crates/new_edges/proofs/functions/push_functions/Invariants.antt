use Rattle.std.proofs.Common.{◌≡◌, ◌++◌, take}
use Rattle.std.specs.List.{flat_map}
use Rattle.new_edges.specs.Functions.{function_edges}
use Rattle.new_edges.proofs.functions.push_functions.Given as goal

abbrev pub invariant-loop-function : goal.invariant-loop-function
invariant-loop-function l = l.edges.items ≡ l.initial.edges.items ++ flat_map (function_edges l.context.module.now l.context.patches.now) (take l.function-index l.function-items)
