use Rattle.std.proofs.Common.{◌≡◌, drop}
use Rattle.sym_expr.specs.Placing.{end_from, stretch_size}
use Rattle.link_image.proofs.linking.stretch_size.Given as goal

abbrev pub invariant-loop-piece : goal.invariant-loop-piece
invariant-loop-piece l = end_from l.end (drop l.piece-index l.stretch.pieces) ≡ stretch_size l.stretch
