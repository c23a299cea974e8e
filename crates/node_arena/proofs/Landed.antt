-- Where references land in a graph that extends another.
use Rattle.std.proofs.Common.{◌≡◌, ℕ, ◌<◌, List, length, map, sym, ap, ◌∙◌, subst}
use Rattle.std.specs.Prelude.{All}
use Rattle.std.specs.Ordering.{nat_cmp}
use Rattle.std.specs.List.Sorted.{IsStrictlySortedBy}
use Rattle.node_arena.specs.declared.ids.CfgEnd.{CfgEnd}
use Rattle.node_arena.specs.declared.ids.EdgeId.{EdgeId}
use Rattle.node_arena.specs.declared.nodes.EdgeNode.{EdgeNode}
use Rattle.node_arena.specs.declared.nodes.IntervalNode.{IntervalNode}
use Rattle.node_arena.specs.declared.nodes.SymbolNode.{SymbolNode}
use Rattle.node_arena.specs.Arenas.{Arenas}
use Rattle.node_arena.specs.Sound.{IsVertex, IsReferent, NamesSymbolsOf, module_of_section, tree, lands, flow}
use Rattle.node_arena.proofs.Kept.{Extends, kept_sources, kept_targets, kept_vertices, kept_entries}

-- the edges and vertices are those that were
pub record SameFlow (g h : Arenas) : Type 0 where
  pub edges : h.edges ≡ g.edges
  pub live : h.live ≡ g.live
  pub vertices : h.vertices ≡ g.vertices
  pub has_cfg : h.has_cfg ≡ g.has_cfg

pub flow_same : (g h : Arenas) → SameFlow g h → flow g → flow h
flow_same g h f was =
    let all : All (λ (id : EdgeId). id.index < length h.edges) g.live = subst (λ (es : List EdgeNode). All (λ (id : EdgeId). id.index < length es) g.live) (sym f.edges) was.live in
    record {
      live = subst (λ (ids : List EdgeId). All (λ (id : EdgeId). id.index < length h.edges) ids) (sym f.live) all;
      ascend = subst (λ (ids : List EdgeId). IsStrictlySortedBy nat_cmp (map (λ (id : EdgeId). id.index) ids)) (sym f.live) was.ascend;
      no_edges = λ e. f.live ∙ was.no_edges (sym f.has_cfg ∙ e);
      no_vertices = λ e. f.vertices ∙ was.no_vertices (sym f.has_cfg ∙ e);
    }

pub lands_same : (g h : Arenas) → Extends g h → tree g → SameFlow g h → lands g → All (λ (n : SymbolNode). IsReferent h n.module n.payload) h.symbols
    → All (λ (n : IntervalNode). NamesSymbolsOf h (module_of_section h n.section) n.exprs) h.intervals → lands h
lands_same g h e t f l referents exprs = record {
  entries = kept_entries g h e t l.entries;
  referents = referents;
  symbols = exprs;
  sources = subst (λ (es : List EdgeNode). All (λ (n : EdgeNode). IsVertex h n.source) es) (sym f.edges) (kept_sources g h e g.edges l.sources);
  targets = subst (λ (es : List EdgeNode). All (λ (n : EdgeNode). IsVertex h n.target) es) (sym f.edges) (kept_targets g h e g.edges l.targets);
  vertices = subst (λ (vs : List CfgEnd). All (IsVertex h) vs) (sym f.vertices) (kept_vertices g h e g.vertices l.vertices);
}
