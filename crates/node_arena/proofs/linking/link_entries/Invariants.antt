use Rattle.std.proofs.Common.{◌≡◌, map, take, length}
use Rattle.std.specs.Str.{bytes_eq}
use Rattle.indexmap.specs.IndexMap.{get}
use Rattle.node_arena.specs.declared.nodes.ModuleNode.{ModuleNode}
use Rattle.node_arena.specs.Linking.{loose_module, module_entry}
use Rattle.node_arena.proofs.linking.link_entries.Given as goal

abbrev pub invariant-loop-k : goal.invariant-loop-k
invariant-loop-k l = record {
  len : length l.modules.items ≡ length l.fn.modules.items;
  nodes : map loose_module l.modules.items ≡ map loose_module l.fn.modules.items;
  entries : map (λ (n : ModuleNode). n.entry) (take l.k l.modules.items) ≡ map (module_entry (get bytes_eq l.index)) (take l.k l.from);
}
