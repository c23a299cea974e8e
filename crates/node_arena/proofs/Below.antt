-- The children of a node are below it, and name it as their parent.
use Rattle.std.proofs.Common.{◌≡◌, ℕ, ◌<◌, length}
use Rattle.std.specs.Prelude.{Contains}
use Rattle.std.proofs.lemmas.List.{length-map}
use Rattle.node_arena.specs.declared.ids.BlockId.{BlockId}
use Rattle.node_arena.specs.declared.ids.IntervalId.{IntervalId}
use Rattle.node_arena.specs.declared.ids.ProxyId.{ProxyId}
use Rattle.node_arena.specs.declared.ids.SectionId.{SectionId}
use Rattle.node_arena.specs.declared.ids.SymbolId.{SymbolId}
use Rattle.node_arena.specs.declared.nodes.BlockNode.{BlockNode}
use Rattle.node_arena.specs.declared.nodes.IntervalNode.{IntervalNode}
use Rattle.node_arena.specs.declared.nodes.ModuleNode.{ModuleNode}
use Rattle.node_arena.specs.declared.nodes.ProxyNode.{ProxyNode}
use Rattle.node_arena.specs.declared.nodes.SectionNode.{SectionNode}
use Rattle.node_arena.specs.declared.nodes.SymbolNode.{SymbolNode}
use Rattle.node_arena.specs.Arenas.{Arenas, module_at, section_at, interval_at, block_at, symbol_at, proxy_at, no_module, no_section, no_interval, no_block, no_symbol, no_proxy}
use Rattle.node_arena.specs.Placing.{full_tree, section_parents}
use Rattle.node_arena.specs.Sound.{module_of_section}
use Rattle.node_arena.proofs.Lists.{listed_of}
use Rattle.node_arena.proofs.Members.{child-of}

module _ (g : Arenas) (t : full_tree g) where
  pub block-below : (i : IntervalId) → i.index < length g.intervals → (b : BlockId) → Contains (interval_at g i).blocks b → (b.index < length g.blocks) × ((block_at g b).interval.index ≡ i.index)
  block-below i w b k = child-of (λ (n : IntervalNode). n.blocks) (λ (x : BlockId). x.index) (λ (n : BlockNode). n.interval.index) no_interval no_block g.intervals g.blocks t.lower.blocks i.index w b k

  pub interval-below : (s : SectionId) → s.index < length g.sections → (i : IntervalId) → Contains (section_at g s).intervals i → (i.index < length g.intervals) × ((interval_at g i).section.index ≡ s.index)
  interval-below s w i k = child-of (λ (n : SectionNode). n.intervals) (λ (x : IntervalId). x.index) (λ (n : IntervalNode). n.section.index) no_section no_interval g.sections g.intervals t.lower.intervals s.index w i k

  pub section-below : (m : ℕ) → m < length g.modules → (s : SectionId) → Contains (module_at g (record { index = m })).sections s → (s.index < length g.sections) × (module_of_section g s ≡ m)
  section-below m w s k = child-of (λ (n : ModuleNode). n.sections) (λ (x : SectionId). x.index) (λ (n : SectionNode). n.module.index) no_module no_section g.modules g.sections t.sections m w s k

  pub symbol-below : (m : ℕ) → m < length g.modules → (s : SymbolId) → Contains (module_at g (record { index = m })).symbols s → (s.index < length g.symbols) × ((symbol_at g s).module.index ≡ m)
  symbol-below m w s k = child-of (λ (n : ModuleNode). n.symbols) (λ (x : SymbolId). x.index) (λ (n : SymbolNode). n.module.index) no_module no_symbol g.modules g.symbols t.symbols m w s k

  pub proxy-below : (m : ℕ) → m < length g.modules → (p : ProxyId) → Contains (module_at g (record { index = m })).proxies p → (p.index < length g.proxies) × ((proxy_at g p).module.index ≡ m)
  proxy-below m w p k = child-of (λ (n : ModuleNode). n.proxies) (λ (x : ProxyId). x.index) (λ (n : ProxyNode). n.module.index) no_module no_proxy g.modules g.proxies t.proxies m w p k

  -- a section of one of the modules
  pub section-in : (n : ModuleNode) → Contains g.modules n → (s : SectionId) → Contains n.sections s → s.index < length g.sections
  section-in n at s k = rw length-map at (listed_of (λ (x : ModuleNode). x.sections) (λ (x : SectionId). x.index) n g.modules (section_parents g.sections) t.sections n at s k)
