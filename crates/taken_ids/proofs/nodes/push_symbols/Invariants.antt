use Rattle.std.proofs.Common.{◌≡◌, ◌++◌, map, take}
use Rattle.taken_ids.specs.NodeIds.{symbol_id}
use Rattle.taken_ids.proofs.nodes.push_symbols.Given as goal

abbrev pub invariant-loop-symbol : goal.invariant-loop-symbol
invariant-loop-symbol l = l.out.items ≡ l.initial.out.items ++ map symbol_id (take l.symbol-index l.symbols)
