use Rattle.std.proofs.Common.{◌<◌, ◌∙◌, length, ap, arith}
use Rattle.std.proofs.Math.ListN.{length-set}
use Rattle.std.specs.Str.{bytes_eq}
use Rattle.indexmap.specs.IndexMap.{get}
use Rattle.node_arena.specs.declared.nodes.SymbolNode.{SymbolNode}
use Rattle.node_arena.specs.Linking.{loose_symbol, payload_found}
use Rattle.node_arena.proofs.Written.{same-nodes, part-written}
use Rattle.node_arena.proofs.linking.link_symbols.Goals as goal

pub loop-k-preserved : goal.loop-k-preserved
loop-k-preserved c =
    let found = get bytes_eq c.args.index.now in
    let items = c.loop-k.symbols.items in
    let k = c.loop-k.k in
    let now : SymbolNode = c.index_mut.result.now in
    let n : SymbolNode = record now { payload = c.payload_of.result } in
    let x = c.index-payloads-k.result in
    let inside : k < length c.args.payloads.now = c.loop-k-test.true in
    let within : k < length items = omega (arith, c.requires, c.loop-k.invariant.len) in
    record {
      len = rw length-set c.loop-k.invariant.len;
      nodes = same-nodes loose_symbol (λ (m : SymbolNode). m.payload) (payload_found found) items c.args.payloads.now k n now x within inside (ap loose_symbol c.index_mut.ensures.value) ∙ c.loop-k.invariant.nodes;
      payloads = part-written loose_symbol (λ (m : SymbolNode). m.payload) (payload_found found) items c.args.payloads.now k n now x within inside
          (c.payload_of.ensures ∙ ap (payload_found found) c.index-payloads-k.is) c.loop-k.invariant.payloads;
    }
