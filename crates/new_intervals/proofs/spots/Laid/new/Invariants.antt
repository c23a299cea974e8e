use Rattle.std.proofs.Common.{◌≡◌, ◌++◌, drop}
use Rattle.new_intervals.specs.Placed.{placed_all}
use Rattle.sym_expr.specs.Placing.{end_from, placed, placed_from, stretch_size}
use Rattle.new_intervals.proofs.spots.Laid.new.Given as goal

abbrev pub invariant-loop-piece : goal.invariant-loop-piece
invariant-loop-piece l = record {
  inside : end_from l.end (drop l.piece-index l.stretch.pieces) ≡ stretch_size l.stretch;
  placed : placed_all l.spots.items ++ placed_from l.end (drop l.piece-index l.stretch.pieces) ≡ placed l.stretch;
}
