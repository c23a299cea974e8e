use Rattle.std.proofs.Common.{arith, drop, refl}
use Rattle.std.proofs.Math.Nat.{max-eq_right}
use Rattle.sym_expr.specs.Placing.{placed_from, stretch_size}
use Rattle.layout_plan.proofs.Shaping.{greatest_some, ends_behind, ends_before}
use Rattle.layout_plan.proofs.shapes.spot_of.Goals as goal

pub loop-piece-init : goal.loop-piece-init
loop-piece-init c = record {
  ends = refl;
  needs = max-eq_right (greatest_some (placed_from 0 c.args.stretch.now.pieces));
  some = omega arith;
}

pub placed_at-at-requires : goal.placed_at-at-requires
placed_at-at-requires c = omega (arith, c.loop-piece.invariant.ends, ends_behind c.loop-piece.end (drop c.loop-piece.piece-index c.args.stretch.now.pieces), c.requires)

pub new_size-requires : goal.new_size-requires
new_size-requires c = omega (arith, ends_before c.loop-piece.end c.loop-piece.piece-index (stretch_size c.args.stretch.now) c.args.stretch.now.pieces c.as_slice-piece-items.result.now c.piece-item.result c.as_slice-piece-items.ensures c.loop-piece-test.true c.piece-item.is c.loop-piece.invariant.ends, c.requires)

pub overflow_add-end : goal.overflow_add-end
overflow_add-end c = omega (arith, ends_before c.loop-piece.end c.loop-piece.piece-index (stretch_size c.args.stretch.now) c.args.stretch.now.pieces c.as_slice-piece-items.result.now c.piece-item.result c.as_slice-piece-items.ensures c.loop-piece-test.true c.piece-item.is c.loop-piece.invariant.ends, c.requires, c.placed_at-at.ensures.place, c.new_size.ensures)
