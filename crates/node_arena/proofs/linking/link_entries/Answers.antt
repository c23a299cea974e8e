use Rattle.std.proofs.Common.{◌<◌, ◌∙◌, length, ap, arith}
use Rattle.std.proofs.Math.ListN.{length-set}
use Rattle.std.specs.Str.{bytes_eq}
use Rattle.indexmap.specs.IndexMap.{get}
use Rattle.node_arena.specs.declared.nodes.ModuleNode.{ModuleNode}
use Rattle.node_arena.specs.Linking.{loose_module, module_entry}
use Rattle.node_arena.proofs.Written.{same-nodes, part-written}
use Rattle.node_arena.proofs.linking.link_entries.Goals as goal

pub loop-k-preserved : goal.loop-k-preserved
loop-k-preserved c =
    let found = get bytes_eq c.args.index.now in
    let items = c.loop-k.modules.items in
    let k = c.loop-k.k in
    let now : ModuleNode = c.index_mut.result.now in
    let n : ModuleNode = record now { entry = c.entry_of.result } in
    let x = c.index-from-k.result in
    let inside : k < length c.args.from.now = c.loop-k-test.true in
    let within : k < length items = omega (arith, c.requires, c.loop-k.invariant.len) in
    record {
      len = rw length-set c.loop-k.invariant.len;
      nodes = same-nodes loose_module (λ (m : ModuleNode). m.entry) (module_entry found) items c.args.from.now k n now x within inside (ap loose_module c.index_mut.ensures.value) ∙ c.loop-k.invariant.nodes;
      entries = part-written loose_module (λ (m : ModuleNode). m.entry) (module_entry found) items c.args.from.now k n now x within inside
          (c.entry_of.ensures ∙ ap (module_entry found) c.index-from-k.is) c.loop-k.invariant.entries;
    }
