use Rattle.std.proofs.Common.{◌≡◌, ◌++◌, take}
use Rattle.std.specs.List.{flat_map}
use Rattle.new_edges.specs.Functions.{function_ids}
use Rattle.new_edges.proofs.functions.push_function_ids.Given as goal

abbrev pub invariant-loop-function : goal.invariant-loop-function
invariant-loop-function l = l.ids.items ≡ l.initial.ids.items ++ flat_map (function_ids l.context.module.now l.context.patches.now) (take l.function-index l.function-items)
