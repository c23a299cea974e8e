use Rattle.std.proofs.Common.{◌≡◌, ◌++◌, take}
use Rattle.std.specs.List.{flat_map}
use Rattle.rewrite.specs.Symbols.{function_symbols}
use Rattle.new_symbols.proofs.names.push_functions.Given as goal

abbrev pub invariant-loop-function : goal.invariant-loop-function
invariant-loop-function l = l.symbols.items ≡ l.initial.symbols.items ++ flat_map (function_symbols l.module) (take l.function-index l.functions)
