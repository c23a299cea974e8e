-- Calls that set something of a node, or of the edges, leave a graph that stands.
use Rattle.std.proofs.Common.{◌≡◌, ℕ, ◌<◌, List, length, map, Option, refl, sym, ap, ◌∙◌, subst}
use Rattle.std.specs.Prelude.{All}
use Rattle.std.specs.Ordering.{nat_cmp}
use Rattle.std.specs.List.Sorted.{IsStrictlySortedBy}
use Rattle.std.proofs.lemmas.List.Elements.{All-set}
use Rattle.std.proofs.Math.Seq.{map-set_same}
use Rattle.gt_model.specs.declared.tables.Aux.{Aux}
use Rattle.gt_model.specs.Ordered.{ordered_exprs, ordered_aux}
use Rattle.node_arena.specs.declared.ids.BlockId.{BlockId}
use Rattle.node_arena.specs.declared.ids.CfgEnd.{CfgEnd}
use Rattle.node_arena.specs.declared.ids.EdgeId.{EdgeId}
use Rattle.node_arena.specs.declared.ids.IntervalId.{IntervalId}
use Rattle.node_arena.specs.declared.ids.ModuleId.{ModuleId}
use Rattle.node_arena.specs.declared.ids.NodeRef.{NodeRef}
use Rattle.node_arena.specs.declared.ids.SymbolId.{SymbolId}
use Rattle.node_arena.specs.declared.nodes.BlockNode.{BlockNode}
use Rattle.node_arena.specs.declared.nodes.EdgeNode.{EdgeNode}
use Rattle.node_arena.specs.declared.nodes.IntervalNode.{IntervalNode}
use Rattle.node_arena.specs.declared.nodes.ModuleNode.{ModuleNode}
use Rattle.node_arena.specs.declared.nodes.SymbolNode.{SymbolNode}
use Rattle.node_arena.specs.Arenas.{Arenas, no_module, no_block, no_interval, no_symbol, module_at, block_at, interval_at, symbol_at}
use Rattle.node_arena.specs.Changes.{with_module, with_block, with_interval, with_symbol}
use Rattle.node_arena.specs.Sound.{IsVertex, IsReferent, NamesSymbolsOf, module_of_section, flow, sorted}
use Rattle.node_arena.proofs.Kept.{kept_sources, kept_targets, kept_vertices, kept_exprs, kept_names, kept_referents, kept_referent, kept_entries}
use Rattle.node_arena.proofs.Landed.{SameFlow, flow_same, lands_same}
use Rattle.node_arena.proofs.Alike.{Alike, Stands, module_frame, interval_frame, block_frame, symbol_frame, extends_alike, stands_alike}

module _ (g : Arenas) (found : List ℕ → Option NodeRef) (s : Stands g found) where
  stands_set : (h : Arenas) → Alike g h → SameFlow g h → All (λ (n : SymbolNode). IsReferent h n.module n.payload) h.symbols
      → All (λ (n : IntervalNode). NamesSymbolsOf h (module_of_section h n.section) n.exprs) h.intervals → sorted h → Stands h found
  stands_set h a f referents exprs order =
      stands_alike g h found a s (lands_same g h (extends_alike g h a) s.sound.tree f s.sound.lands referents exprs) (flow_same g h f s.sound.flow) order

  -- a block of the same interval and identifier, and of the same kind
  pub stands_block : (id : BlockId) (n : BlockNode) → block_frame n ≡ block_frame (block_at g id) → Stands (with_block g id n) found
  stands_block id n same =
      let h = with_block g id n in
      let a : Alike g h = record {
        uuid = refl;
        modules = refl;
        sections = refl;
        intervals = refl;
        blocks = map-set_same block_frame g.blocks id.index n no_block same;
        symbols = refl;
        proxies = refl;
      } in
      let e = extends_alike g h a in
      stands_set h a (record { edges = refl; live = refl; vertices = refl; has_cfg = refl })
      (kept_referents g h e s.sound.tree g.symbols s.sound.lands.referents)
      (kept_exprs g h e g.intervals s.sound.lands.symbols)
      (record { exprs = s.sound.sorted.exprs; tables = s.sound.sorted.tables; aux = s.sound.sorted.aux })

  -- a symbol of the same module and identifier
  pub stands_symbol : (id : SymbolId) (n : SymbolNode) → symbol_frame n ≡ symbol_frame (symbol_at g id) → IsReferent g n.module n.payload
      → Stands (with_symbol g id n) found
  stands_symbol id n same referent =
      let h = with_symbol g id n in
      let a : Alike g h = record {
        uuid = refl;
        modules = refl;
        sections = refl;
        intervals = refl;
        blocks = refl;
        symbols = map-set_same symbol_frame g.symbols id.index n no_symbol same;
        proxies = refl;
      } in
      let e = extends_alike g h a in
      stands_set h a (record { edges = refl; live = refl; vertices = refl; has_cfg = refl })
      (All-set (λ (m : SymbolNode). IsReferent h m.module m.payload) g.symbols id.index n (kept_referent g h e s.sound.tree n.module n.payload referent)
      (kept_referents g h e s.sound.tree g.symbols s.sound.lands.referents))
      (kept_exprs g h e g.intervals s.sound.lands.symbols)
      (record { exprs = s.sound.sorted.exprs; tables = s.sound.sorted.tables; aux = s.sound.sorted.aux })

  -- an interval of the same section, identifier and blocks
  pub stands_interval : (id : IntervalId) (n : IntervalNode) → interval_frame n ≡ interval_frame (interval_at g id) → ordered_exprs n.exprs
      → NamesSymbolsOf g (module_of_section g n.section) n.exprs → Stands (with_interval g id n) found
  stands_interval id n same order names =
      let h = with_interval g id n in
      let a : Alike g h = record {
        uuid = refl;
        modules = refl;
        sections = refl;
        intervals = map-set_same interval_frame g.intervals id.index n no_interval same;
        blocks = refl;
        symbols = refl;
        proxies = refl;
      } in
      let e = extends_alike g h a in
      stands_set h a (record { edges = refl; live = refl; vertices = refl; has_cfg = refl })
      (kept_referents g h e s.sound.tree g.symbols s.sound.lands.referents)
      (All-set (λ (m : IntervalNode). NamesSymbolsOf h (module_of_section h m.section) m.exprs) g.intervals id.index n
      (kept_names g h e (module_of_section g n.section) n.exprs names)
      (kept_exprs g h e g.intervals s.sound.lands.symbols))
      (record {
        exprs = All-set (λ (m : IntervalNode). ordered_exprs m.exprs) g.intervals id.index n order s.sound.sorted.exprs;
        tables = s.sound.sorted.tables;
        aux = s.sound.sorted.aux;
      })

  -- a module of the same identifier, nodes and entry
  pub stands_module : (id : ModuleId) (n : ModuleNode) → module_frame n ≡ module_frame (module_at g id) → ordered_aux n.aux → Stands (with_module g id n) found
  stands_module id n same order =
      let h = with_module g id n in
      let a : Alike g h = record {
        uuid = refl;
        modules = map-set_same module_frame g.modules id.index n no_module same;
        sections = refl;
        intervals = refl;
        blocks = refl;
        symbols = refl;
        proxies = refl;
      } in
      let e = extends_alike g h a in
      stands_set h a (record { edges = refl; live = refl; vertices = refl; has_cfg = refl })
      (kept_referents g h e s.sound.tree g.symbols s.sound.lands.referents)
      (kept_exprs g h e g.intervals s.sound.lands.symbols)
      (record {
        exprs = s.sound.sorted.exprs;
        tables = All-set (λ (m : ModuleNode). ordered_aux m.aux) g.modules id.index n order s.sound.sorted.tables;
        aux = s.sound.sorted.aux;
      })

  -- other edges and vertices
  pub stands_flow : (h : Arenas) → h ≡ record g { edges = h.edges; live = h.live; vertices = h.vertices; has_cfg = h.has_cfg }
      → All (λ (n : EdgeNode). IsVertex g n.source) h.edges → All (λ (n : EdgeNode). IsVertex g n.target) h.edges → All (IsVertex g) h.vertices → flow h
      → Stands h found
  stands_flow h same sources targets vertices f =
      let a : Alike g h = record {
        uuid = ap (λ (x : Arenas). x.uuid) same;
        modules = ap (λ (x : Arenas). map module_frame x.modules) same;
        sections = ap (λ (x : Arenas). x.sections) same;
        intervals = ap (λ (x : Arenas). map interval_frame x.intervals) same;
        blocks = ap (λ (x : Arenas). map block_frame x.blocks) same;
        symbols = ap (λ (x : Arenas). map symbol_frame x.symbols) same;
        proxies = ap (λ (x : Arenas). x.proxies) same;
      } in
      let e = extends_alike g h a in
      let l = s.sound.lands in
      stands_alike g h found a s
      (record {
        entries = kept_entries g h e s.sound.tree l.entries;
        referents = subst (λ (ns : List SymbolNode). All (λ (n : SymbolNode). IsReferent h n.module n.payload) ns) (sym (ap (λ (x : Arenas). x.symbols) same))
            (kept_referents g h e s.sound.tree g.symbols l.referents);
        symbols = subst (λ (ns : List IntervalNode). All (λ (n : IntervalNode). NamesSymbolsOf h (module_of_section h n.section) n.exprs) ns) (sym (ap (λ (x : Arenas). x.intervals) same))
            (kept_exprs g h e g.intervals l.symbols);
        sources = kept_sources g h e h.edges sources;
        targets = kept_targets g h e h.edges targets;
        vertices = kept_vertices g h e h.vertices vertices;
      })
      f
      (record {
        exprs = subst (λ (ns : List IntervalNode). All (λ (n : IntervalNode). ordered_exprs n.exprs) ns) (sym (ap (λ (x : Arenas). x.intervals) same)) s.sound.sorted.exprs;
        tables = subst (λ (ns : List ModuleNode). All (λ (n : ModuleNode). ordered_aux n.aux) ns) (sym (ap (λ (x : Arenas). x.modules) same)) s.sound.sorted.tables;
        aux = subst (λ (xs : List Aux). ordered_aux xs) (sym (ap (λ (x : Arenas). x.aux) same)) s.sound.sorted.aux;
      })
