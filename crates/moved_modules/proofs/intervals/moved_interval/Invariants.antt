use Rattle.std.proofs.Common.{◌≡◌, ◌+◌, ◌≤◌, ◌++◌, drop}
use Rattle.std.specs.Prelude.{sum_by}
use Rattle.moved_modules.specs.Moved.{pieces_from}
use Rattle.rewrite.specs.Offsets.{old_size}
use Rattle.rewrite.specs.Rooms.{old_length}
use Rattle.sym_expr.specs.Placing.{end_from, placed, placed_from, stretch_size}
use Rattle.moved_modules.proofs.intervals.moved_interval.Given as goal

abbrev pub invariant-loop-piece : goal.invariant-loop-piece
invariant-loop-piece l = record {
  runs : l.pieces.items ++ pieces_from l.from (placed_from l.end (drop l.piece-index l.piece-items)) ≡ pieces_from 0 (placed l.stretch);
  end : end_from l.end (drop l.piece-index l.piece-items) ≡ stretch_size l.stretch;
  old : l.from + sum_by old_size (drop l.piece-index l.piece-items) ≡ old_length l.stretch;
  below : l.from ≤ l.end;
}
