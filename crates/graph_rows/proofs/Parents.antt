-- The interval of a block and the section of an interval are nodes of the graph.
use Rattle.std.proofs.Common.{◌≡◌, ℕ, ◌<◌, List, map, length, get_or, subst}
use Rattle.std.proofs.lemmas.List.{get_or-map, length-map}
use Rattle.node_arena.specs.Arenas.{Arenas, no_block, no_interval, block_at, interval_at}
use Rattle.node_arena.specs.Sound.{Children, sound, block_places, interval_places}
use Rattle.node_arena.specs.declared.ids.BlockId.{BlockId}
use Rattle.node_arena.specs.declared.ids.IntervalId.{IntervalId}
use Rattle.node_arena.specs.declared.nodes.BlockNode.{BlockNode}
use Rattle.node_arena.specs.declared.nodes.IntervalNode.{IntervalNode}
use Rattle.node_arena.specs.declared.nodes.SectionNode.{SectionNode}

parent_is_live : {N M : Type 0} (places : N → List ℕ) (parent : M → ℕ) (nodes : List N) (children : List M)
    → Children (map places nodes) (map parent children) → (k : ℕ) (d : M) → k < length children → parent (get_or children k d) < length nodes
parent_is_live places parent nodes children tree k d within =
    let len : k < length (map parent children) = rw length-map within in
    let inside : parent (get_or children k d) < length (map places nodes) =
    subst (λ p. p < length (map places nodes)) (get_or-map parent children k d 0 within) (tree.owned k len).0 in
    subst (λ (n : ℕ). parent (get_or children k d) < n) (length-map nodes places) inside

pub interval_is_live : (g : Arenas) (id : BlockId) → sound g → id.index < length g.blocks → (block_at g id).interval.index < length g.intervals
interval_is_live g id s within =
    parent_is_live (λ (n : IntervalNode). block_places n.blocks) (λ (n : BlockNode). n.interval.index) g.intervals g.blocks s.tree.blocks id.index no_block within

pub section_is_live : (g : Arenas) (id : IntervalId) → sound g → id.index < length g.intervals → (interval_at g id).section.index < length g.sections
section_is_live g id s within =
    parent_is_live (λ (n : SectionNode). interval_places n.intervals) (λ (n : IntervalNode). n.section.index) g.sections g.intervals s.tree.intervals id.index no_interval within
