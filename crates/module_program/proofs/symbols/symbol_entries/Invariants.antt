use Rattle.std.proofs.Common.{◌≡◌, map, take}
use Rattle.std.specs.Str.{bytes_eq}
use Rattle.indexmap.specs.IndexMap.{get}
use Rattle.module_program.specs.Entries.{symbol_entry}
use Rattle.module_program.specs.Naming.{count_in}
use Rattle.module_program.proofs.symbols.symbol_entries.Given as goal

abbrev pub invariant-loop-symbol : goal.invariant-loop-symbol
invariant-loop-symbol l = l.entries.items ≡ map (symbol_entry (count_in l.counts) (get bytes_eq l.blocks)) (take l.symbol-index l.symbols)
