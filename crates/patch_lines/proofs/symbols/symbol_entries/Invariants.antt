use Rattle.std.proofs.Common.{◌≡◌, map, take}
use Rattle.patch_lines.specs.Entries.{symbol_entry}
use Rattle.patch_lines.proofs.symbols.symbol_entries.Given as goal

abbrev pub invariant-loop-symbol : goal.invariant-loop-symbol
invariant-loop-symbol l = l.entries.items ≡ map symbol_entry (take l.symbol-index l.symbols)
