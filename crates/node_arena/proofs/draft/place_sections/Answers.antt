use Rattle.std.proofs.lemmas.List.{take_more}
use Rattle.node_arena.proofs.Placed.{sections-more}
use Rattle.node_arena.proofs.draft.place_sections.Goals as goal

pub loop-section-preserved : goal.loop-section-preserved
loop-section-preserved c =
    rw (take_more c.args.from.now c.loop-section.section-index c.section-item.result c.loop-section-test.true, ← c.section-item.is, c.in_ok-push.ensures.items)
    (sections-more _ _ _ _ _ _ _ _ c.loop-section.invariant c.in_ok-place_section.ensures)
