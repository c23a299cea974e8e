use Rattle.std.proofs.Common.{refl, ◌∙◌}
use Rattle.node_arena.proofs.Placed.{section-put}
use Rattle.node_arena.proofs.draft.place_section.Goals as goal

pub returns : goal.returns
returns c =
    section-put _ _ _ _ _ _ _ _ _ c.requires (c.len.ensures ∙ c.args.arena.now.sections.ok.0) (rw c.as_slice.ensures at c.in_ok-intervals.ensures)
    c.in_ok-push.ensures.items (c.in_ok-from_str.ensures ∙ c.as_str.ensures) (c.in_ok-from_slice.ensures ∙ c.as_slice-2.ensures) refl
