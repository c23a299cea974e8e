use Rattle.std.proofs.Common.{◌≡◌, ◌≤◌, ℕ, List, length, drop, find}
use Rattle.std.specs.Str.{bytes_eq}
use Rattle.indexmap.specs.IndexMap.{get}
use Rattle.new_intervals.specs.Placed.{placed_all, spot_at}
use Rattle.sym_expr.specs.Images.{is_block}
use Rattle.sym_expr.specs.Placing.{Placed}
use Rattle.new_intervals.proofs.spots.index_of.Given as goal

abbrev pub invariant-loop-left : goal.invariant-loop-left
invariant-loop-left l = record {
  within : l.left ≤ length l.spots;
  held : (id : List ℕ) → spot_at l.spots (get bytes_eq l.index) id ≡ find (λ (x : Placed). is_block id x.piece) (placed_all (drop l.left l.spots));
}

abbrev pub decreases-loop-left : goal.decreases-loop-left
decreases-loop-left l = l.left
