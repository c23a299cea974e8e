use Rattle.std.proofs.Common.{drop}
use Rattle.moved_places.proofs.Pieces.{KeptSoFar}
use Rattle.moved_places.proofs.intervals.interval_moves.Given as goal

abbrev pub invariant-loop-piece : goal.invariant-loop-piece
invariant-loop-piece l = KeptSoFar l.stretch.pieces (drop l.piece-index l.stretch.pieces) l.from l.end l.pieces.items
