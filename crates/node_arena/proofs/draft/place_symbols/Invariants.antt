use Rattle.std.proofs.Common.{◌≡◌, ◌++◌, map, take}
use Rattle.node_arena.specs.Placing.{PlacedSymbols, payload_of}
use Rattle.node_arena.proofs.draft.place_symbols.Given as goal

abbrev pub invariant-loop-symbol : goal.invariant-loop-symbol
invariant-loop-symbol l = record {
  nodes : PlacedSymbols l.parent.index (take l.symbol-index l.from) l.initial.symbols.items l.ids.items l.symbols.items;
  payloads : l.payloads.items ≡ l.initial.payloads.items ++ map payload_of (take l.symbol-index l.from);
}
