use Rattle.std.proofs.Common.{drop, arith}
use Rattle.sym_expr.specs.Placing.{stretch_size}
use Rattle.asm_print.proofs.Tiled.{ends_before, ends_behind}
use Rattle.asm_print.proofs.pieces.push_body.Goals as goal

pub placed_at-at-requires : goal.placed_at-at-requires
placed_at-at-requires c =
    let before = ends_behind c.loop-piece.end (drop c.loop-piece.piece-index c.args.stretch.now.pieces) in
    let ends = c.loop-piece.invariant.ends in
    omega (arith, before, ends, c.requires.bound)

pub new_size-requires : goal.new_size-requires
new_size-requires c =
    let s = c.args.stretch.now in
    let before = ends_before c.loop-piece.end c.loop-piece.piece-index (stretch_size s) s.pieces c.as_slice-piece-items.result.now c.piece-item.result c.as_slice-piece-items.ensures c.loop-piece-test.true c.piece-item.is c.loop-piece.invariant.ends in
    omega (arith, before, c.requires.bound)

pub overflow_add-end : goal.overflow_add-end
overflow_add-end c =
    let s = c.args.stretch.now in
    let before = ends_before c.loop-piece.end c.loop-piece.piece-index (stretch_size s) s.pieces c.as_slice-piece-items.result.now c.piece-item.result c.as_slice-piece-items.ensures c.loop-piece-test.true c.piece-item.is c.loop-piece.invariant.ends in
    let at = c.placed_at-at.ensures.place in
    let size = c.new_size.ensures in
    omega (arith, before, at, size, c.requires.bound)
