use Rattle.std.proofs.Common.{◌≡◌, take, length}
use Rattle.std.specs.Prelude.{sum_by}
use Rattle.node_arena.specs.Arenas.{interval_at}
use Rattle.node_arena.specs.declared.ids.IntervalId.{IntervalId}
use Rattle.ir_check.proofs.counting.count_blocks.Given as goal

abbrev pub invariant-loop-id : goal.invariant-loop-id
invariant-loop-id l = l.total ≡ sum_by (λ (id : IntervalId). length (interval_at l.graph id).blocks) (take l.id-index l.ids)
