-- The children of a node of a sound graph are nodes of the graph.
use Rattle.std.proofs.Common.{ℕ, ◌<◌, length}
use Rattle.node_arena.specs.declared.ids.IntervalId.{IntervalId}
use Rattle.node_arena.specs.declared.ids.NodeRef.TheVariants as refs
use Rattle.node_arena.specs.declared.ids.SectionId.{SectionId}
use Rattle.node_arena.specs.Arenas.{Arenas, module_at, section_at, interval_at}
use Rattle.node_arena.specs.Parts.{live_blocks, live_intervals, live_sections, live_symbols, live_proxies}
use Rattle.node_arena.specs.Placing.{full_tree}
use Rattle.node_arena.specs.Sound.{tree, sound, Live}
use Rattle.node_arena.proofs.Below.{block-below, interval-below, section-below, symbol-below, proxy-below}
use Rattle.node_arena.proofs.Members.{In-All}

pub full-of : (g : Arenas) → tree g → full_tree g
full-of g t = record {
  lower = record { blocks = t.blocks; intervals = t.intervals };
  sections = t.sections;
  symbols = t.symbols;
  proxies = t.proxies;
}

module _ (g : Arenas) (s : sound g) where
  pub blocks-live : (i : IntervalId) → i.index < length g.intervals → live_blocks g (interval_at g i).blocks
  blocks-live i w = In-All (λ b. Live g (refs.Block b)) (interval_at g i).blocks (λ b m. let l = (block-below g (full-of g s.tree) i w b m).0 in (l, s.solid b.index l))

  pub intervals-live : (i : SectionId) → i.index < length g.sections → live_intervals g (section_at g i).intervals
  intervals-live i w = In-All (λ x. Live g (refs.Interval x)) (section_at g i).intervals (λ x m. (interval-below g (full-of g s.tree) i w x m).0)

  module _ (m : ℕ) (w : m < length g.modules) where
    pub sections-live : live_sections g (module_at g (record { index = m })).sections
    sections-live = In-All (λ x. Live g (refs.Section x)) _ (λ x k. (section-below g (full-of g s.tree) m w x k).0)

    pub symbols-live : live_symbols g (module_at g (record { index = m })).symbols
    symbols-live = In-All (λ x. Live g (refs.Symbol x)) _ (λ x k. (symbol-below g (full-of g s.tree) m w x k).0)

    pub proxies-live : live_proxies g (module_at g (record { index = m })).proxies
    proxies-live = In-All (λ x. Live g (refs.Proxy x)) _ (λ x k. (proxy-below g (full-of g s.tree) m w x k).0)
