use Rattle.std.proofs.Common.{◌≡◌, ◌++◌, drop}
use Rattle.std.specs.List.{flat_map}
use Rattle.sym_expr.specs.Placing.{end_from, placed, placed_from, stretch_size}
use Rattle.asm_print.specs.Items.{placed_lines}
use Rattle.asm_print.proofs.pieces.push_body.Given as goal

-- what was pushed, and what the rest will add
abbrev pub invariant-loop-piece : goal.invariant-loop-piece
invariant-loop-piece l = record {
  lines : l.out ++ flat_map (placed_lines l.here.context.now.module l.here.interval.now) (placed_from l.end (drop l.piece-index l.stretch.pieces)) ≡ l.initial.out ++ flat_map (placed_lines l.here.context.now.module l.here.interval.now) (placed l.stretch);
  ends : end_from l.end (drop l.piece-index l.stretch.pieces) ≡ stretch_size l.stretch;
}
