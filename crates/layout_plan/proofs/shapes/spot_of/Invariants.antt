use Rattle.std.proofs.Common.{◌≡◌, ◌<◌, drop, max}
use Rattle.sym_expr.specs.Placing.{placed_from, end_from, greatest, stretch_size, stretch_alignment}
use Rattle.layout_plan.proofs.shapes.spot_of.Given as goal

abbrev pub invariant-loop-piece : goal.invariant-loop-piece
invariant-loop-piece l = record {
  ends : end_from l.end (drop l.piece-index l.stretch.pieces) ≡ stretch_size l.stretch;
  needs : max l.align (greatest (placed_from l.end (drop l.piece-index l.stretch.pieces))) ≡ stretch_alignment l.stretch;
  some : 0 < l.align;
}
