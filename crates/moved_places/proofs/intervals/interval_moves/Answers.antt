use Rattle.std.proofs.Common.{List, ap, arith, drop, sym, subst, ◌∙◌}
use Rattle.std.specs.List.Sorted.{IsNonDecreasingBy}
use Rattle.std.proofs.Math.Path.{fun_ext}
use Rattle.moved_places.specs.declared.kept.PieceMoves.{PieceMoves}
use Rattle.moved_places.specs.Intervals.{offset_among}
use Rattle.moved_places.proofs.Pieces.{end_behind, end_most, kept_ascend, kept_go, so_far_all, so_far_more}
use Rattle.sym_expr.specs.Placing.{placed_from}
use Rattle.moved_places.proofs.intervals.interval_moves.Goals as goal

pub placed_at-at-requires : goal.placed_at-at-requires
placed_at-at-requires c = let rest = end_behind c.loop-piece.end (drop c.loop-piece.piece-index c.args.stretch.now.pieces) in omega (arith, rest, c.loop-piece.invariant.ends, c.requires)

pub new_size-size-requires : goal.new_size-size-requires
new_size-size-requires c =
    let most = end_most c.args.stretch.now.pieces c.loop-piece.piece-index c.loop-piece.end c.piece-item.result (rw c.as_slice-piece-items.ensures at c.loop-piece-test.true) (rw c.as_slice-piece-items.ensures at c.piece-item.is) in
    omega (arith, most, c.loop-piece.invariant.ends, c.requires)

pub piece_moves-requires : goal.piece_moves-requires
piece_moves-requires c =
    let most = end_most c.args.stretch.now.pieces c.loop-piece.piece-index c.loop-piece.end c.piece-item.result (rw c.as_slice-piece-items.ensures at c.loop-piece-test.true) (rw c.as_slice-piece-items.ensures at c.piece-item.is) in
    record {
      old = omega (arith, c.loop-piece.invariant.before, c.placed_at-at.ensures.place);
      new = omega (arith, most, c.placed_at-at.ensures.place, c.loop-piece.invariant.ends, c.requires);
    }

pub overflow_add-end : goal.overflow_add-end
overflow_add-end c =
    let most = end_most c.args.stretch.now.pieces c.loop-piece.piece-index c.loop-piece.end c.piece-item.result (rw c.as_slice-piece-items.ensures at c.loop-piece-test.true) (rw c.as_slice-piece-items.ensures at c.piece-item.is) in
    omega (arith, most, c.placed_at-at.ensures.place, c.new_size-size.ensures, c.loop-piece.invariant.ends, c.requires)

pub loop-piece-preserved : goal.loop-piece-preserved
loop-piece-preserved c =
    so_far_more c.args.stretch.now.pieces c.loop-piece.piece-index c.loop-piece.from c.loop-piece.end c.placed_at-at.result c.new_size-size.result c.piece-item.result c.in_ok-moves.moves c.loop-piece.pieces.items _
    (rw c.as_slice-piece-items.ensures at c.loop-piece-test.true) (rw c.as_slice-piece-items.ensures at c.piece-item.is) c.placed_at-at.ensures.place c.new_size-size.ensures c.in_ok-moves.ensures c.in_ok-push.ensures.items c.loop-piece.invariant

pub invariant_of-result : goal.invariant_of-result
invariant_of-result c =
    let ps = c.args.stretch.now.pieces in
    let done = so_far_all ps c.loop-piece.piece-index c.loop-piece.from c.loop-piece.end c.loop-piece.pieces.items (rw c.as_slice-piece-items.ensures at c.loop-piece-test.false) c.loop-piece.invariant in
    record { ascend = subst (IsNonDecreasingBy (λ (p : PieceMoves). p.until)) (sym c.from_vec.ensures) (kept_ascend 0 c.loop-piece.from (placed_from 0 ps) c.loop-piece.pieces.items done.0) }

pub returns : goal.returns
returns c =
    let ps = c.args.stretch.now.pieces in
    let kept = c.loop-piece.pieces.items in
    let done = so_far_all ps c.loop-piece.piece-index c.loop-piece.from c.loop-piece.end kept (rw c.as_slice-piece-items.ensures at c.loop-piece-test.false) c.loop-piece.invariant in
    fun_ext (λ at.
    ap (λ (ks : List PieceMoves). offset_among at ks c.loop-piece.end) c.from_vec.ensures
    ∙ ap (offset_among at kept) done.1
    ∙ kept_go at 0 c.loop-piece.from 0 ps kept done.0)
