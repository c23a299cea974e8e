use Rattle.std.proofs.Common.{◌≡◌, map, take, length}
use Rattle.std.specs.Str.{bytes_eq}
use Rattle.indexmap.specs.IndexMap.{get}
use Rattle.node_arena.specs.declared.nodes.SymbolNode.{SymbolNode}
use Rattle.node_arena.specs.Linking.{loose_symbol, payload_found}
use Rattle.node_arena.proofs.linking.link_symbols.Given as goal

abbrev pub invariant-loop-k : goal.invariant-loop-k
invariant-loop-k l = record {
  len : length l.symbols.items ≡ length l.fn.symbols.items;
  nodes : map loose_symbol l.symbols.items ≡ map loose_symbol l.fn.symbols.items;
  payloads : map (λ (n : SymbolNode). n.payload) (take l.k l.symbols.items) ≡ map (payload_found (get bytes_eq l.index)) (take l.k l.payloads);
}
