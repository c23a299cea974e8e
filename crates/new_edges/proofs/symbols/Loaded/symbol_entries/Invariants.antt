use Rattle.std.proofs.Common.{◌≡◌, map, take}
use Rattle.new_edges.specs.Loaded.{symbol_entry}
use Rattle.new_edges.proofs.symbols.Loaded.symbol_entries.Given as goal

abbrev pub invariant-loop-symbol : goal.invariant-loop-symbol
invariant-loop-symbol l = l.entries.items ≡ map (symbol_entry l.self.module.now) (take l.symbol-index l.symbol-items)
