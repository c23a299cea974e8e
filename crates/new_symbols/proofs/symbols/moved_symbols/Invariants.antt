use Rattle.std.proofs.Common.{◌≡◌, map, take}
use Rattle.std.specs.Str.{bytes_eq}
use Rattle.indexmap.specs.IndexMap.{get}
use Rattle.new_symbols.specs.Finding.{symbol_by}
use Rattle.new_symbols.proofs.symbols.moved_symbols.Given as goal

abbrev pub invariant-loop-symbol : goal.invariant-loop-symbol
invariant-loop-symbol l = l.moved.items ≡ map (symbol_by (get bytes_eq l.lasts)) (take l.symbol-index l.symbols)
