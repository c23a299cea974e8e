use Rattle.std.proofs.Common.{refl, ◌∙◌}
use Rattle.node_arena.proofs.Placed.{interval-put}
use Rattle.node_arena.proofs.draft.place_interval.Goals as goal

pub returns : goal.returns
returns c =
    interval-put _ _ _ _ _ _ _ _ c.requires (c.len.ensures ∙ c.args.arena.now.intervals.ok.0) (rw c.as_slice.ensures at c.in_ok-blocks.ensures)
    c.in_ok-push.ensures.items (c.in_ok-from_slice.ensures ∙ c.as_slice-2.ensures) c.in_ok-copy_all.ensures refl
