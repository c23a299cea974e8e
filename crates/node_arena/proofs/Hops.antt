-- From a block to its module.
use Rattle.std.proofs.Common.{◌≡◌, ◌<◌, ◌∙◌, get_or, length, sym, ap, subst}
use Rattle.std.proofs.lemmas.List.{length-map}
use Rattle.node_arena.specs.declared.ids.BlockId.{BlockId}
use Rattle.node_arena.specs.declared.nodes.BlockNode.{BlockNode}
use Rattle.node_arena.specs.declared.nodes.IntervalNode.{IntervalNode}
use Rattle.node_arena.specs.declared.nodes.SectionNode.{SectionNode}
use Rattle.node_arena.specs.Arenas.{Arenas, no_block, no_interval, no_section}
use Rattle.node_arena.specs.Placing.{full_tree, block_lists, interval_lists}
use Rattle.node_arena.specs.Sound.{block_places, interval_places, module_of_block}
use Rattle.node_arena.proofs.Lists.{read-same, parent-within}

module _ (g : Arenas) (t : full_tree g) (id : BlockId) (within : id.index < length g.blocks) (b : BlockNode) (is_b : b ≡ get_or g.blocks id.index b) where
  pub interval-within : b.interval.index < length g.intervals
  interval-within =
      subst (λ (n : BlockNode). n.interval.index < length g.intervals) (sym is_b)
      (subst (λ k. (get_or g.blocks id.index b).interval.index < k) (length-map g.intervals (λ (n : IntervalNode). block_places n.blocks))
      (parent-within (λ (n : BlockNode). n.interval.index) (block_lists g.intervals) g.blocks t.lower.blocks id.index b within))

  module _ (i : IntervalNode) (is_i : i ≡ get_or g.intervals b.interval.index i) where
    pub section-within : i.section.index < length g.sections
    section-within =
        subst (λ (n : IntervalNode). n.section.index < length g.sections) (sym is_i)
        (subst (λ k. (get_or g.intervals b.interval.index i).section.index < k) (length-map g.sections (λ (n : SectionNode). interval_places n.intervals))
        (parent-within (λ (n : IntervalNode). n.section.index) (interval_lists g.sections) g.intervals t.lower.intervals b.interval.index i interval-within))

    pub module-reached : (s : SectionNode) → s ≡ get_or g.sections i.section.index s → s.module.index ≡ module_of_block g id
    module-reached s is_s =
        let eb : b ≡ get_or g.blocks id.index no_block = is_b ∙ read-same g.blocks id.index b no_block within in
        let ei : i ≡ get_or g.intervals (get_or g.blocks id.index no_block).interval.index no_interval =
        is_i ∙ read-same g.intervals b.interval.index i no_interval interval-within ∙ ap (λ (n : BlockNode). get_or g.intervals n.interval.index no_interval) eb in
        ap (λ (n : SectionNode). n.module.index)
        (is_s ∙ read-same g.sections i.section.index s no_section section-within ∙ ap (λ (n : IntervalNode). get_or g.sections n.section.index no_section) ei)
