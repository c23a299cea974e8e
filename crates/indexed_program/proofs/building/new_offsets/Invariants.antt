use Rattle.std.proofs.Common.{◌≡◌, ◌++◌, drop, map}
use Rattle.sym_expr.specs.Placing.{Placed, end_from, placed, placed_from, stretch_size}
use Rattle.indexed_program.proofs.building.new_offsets.Given as goal

abbrev pub invariant-loop-piece : goal.invariant-loop-piece
invariant-loop-piece l = record {
  ends : end_from l.end (drop l.piece-index l.stretch.pieces) ≡ stretch_size l.stretch;
  made : l.offsets.items ++ map (λ (x : Placed). x.at) (placed_from l.end (drop l.piece-index l.stretch.pieces)) ≡ map (λ (x : Placed). x.at) (placed l.stretch);
}
