use Rattle.std.proofs.Common.{◌≡◌, Some}
use Rattle.node_arena.specs.declared.ids.BlockId.{BlockId}
use Rattle.node_arena.specs.Changes.{placed_after}
use Rattle.node_arena.proofs.Inserted.{after_others}
use Rattle.node_arena.proofs.holding.place_after.Given as goal

abbrev pub invariant-loop-k : goal.invariant-loop-k
invariant-loop-k l = (id : BlockId) → after_others l.after l.k l.ids id ≡ placed_after l.ids (Some l.after) id
