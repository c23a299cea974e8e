use Rattle.std.proofs.Common.{◌≡◌, map, take}
use Rattle.moved_modules.specs.Moved.{new_function}
use Rattle.moved_modules.proofs.functions.new_functions.Given as goal

abbrev pub invariant-loop-function : goal.invariant-loop-function
invariant-loop-function l = l.functions.items ≡ map (new_function l.module) (take l.function-index l.function-items)
