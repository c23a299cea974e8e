use Rattle.std.proofs.Common.{◌≡◌, ◌+◌, ◌<◌, ◌^◌, ◌++◌, ℕ, List, [], drop, sym, ap, ◌∙◌, append-nil, arith, rules}
use Rattle.std.specs.Prelude.{sum_by}
use Rattle.std.proofs.lemmas.List.{at_drop_all}
use Rattle.moved_modules.specs.declared.moved.MovedInterval.{MovedInterval}
use Rattle.moved_modules.specs.declared.moved.Piece.{Piece as Run}
use Rattle.moved_modules.specs.Moved.{bytes_at, pieces_from}
use Rattle.moved_modules.proofs.Runs.{end_most, end_next, old_next, place, room, runs_next}
use Rattle.rewrite.specs.Offsets.{old_size}
use Rattle.rewrite.specs.Rooms.{old_length}
use Rattle.sym_expr.specs.declared.program.Piece.{Piece}
use Rattle.sym_expr.specs.Placing.{end_from, new_size, placed, placed_from, stretch_size}
use Rattle.moved_modules.proofs.intervals.moved_interval.Goals as goal

pub placed_at-to-requires : goal.placed_at-to-requires
placed_at-to-requires c =
    let most = end_most c.loop-piece.end (stretch_size c.args.stretch.now) (drop c.loop-piece.piece-index c.as_slice-piece-items.result.now) c.loop-piece.invariant.end in
    omega (arith, most, c.requires)

pub push_piece-requires-clause-from : goal.push_piece-requires-clause-from
push_piece-requires-clause-from c =
    let fits = room c.loop-piece.end (stretch_size c.args.stretch.now) c.as_slice-piece-items.result.now c.loop-piece.piece-index c.piece-item.result c.loop-piece-test.true c.piece-item.is c.loop-piece.invariant.end in
    omega (arith, fits.behind, fits.within, c.loop-piece.invariant.below, c.requires)

pub push_piece-requires-clause-to : goal.push_piece-requires-clause-to
push_piece-requires-clause-to c =
    let fits = room c.loop-piece.end (stretch_size c.args.stretch.now) c.as_slice-piece-items.result.now c.loop-piece.piece-index c.piece-item.result c.loop-piece-test.true c.piece-item.is c.loop-piece.invariant.end in
    omega (arith, fits.within, c.placed_at-to.ensures.place, c.requires)

pub push_piece-requires-clause-small : goal.push_piece-requires-clause-small
push_piece-requires-clause-small c =
    let fits = room c.loop-piece.end (stretch_size c.args.stretch.now) c.as_slice-piece-items.result.now c.loop-piece.piece-index c.piece-item.result c.loop-piece-test.true c.piece-item.is c.loop-piece.invariant.end in
    omega (arith, fits.within, fits.grown, c.requires)

pub old_size-from-requires : goal.old_size-from-requires
old_size-from-requires c =
    let fits = room c.loop-piece.end (stretch_size c.args.stretch.now) c.as_slice-piece-items.result.now c.loop-piece.piece-index c.piece-item.result c.loop-piece-test.true c.piece-item.is c.loop-piece.invariant.end in
    omega (arith, fits.within, fits.grown, c.requires)

pub new_size-requires : goal.new_size-requires
new_size-requires c =
    let fits = room c.loop-piece.end (stretch_size c.args.stretch.now) c.as_slice-piece-items.result.now c.loop-piece.piece-index c.piece-item.result c.loop-piece-test.true c.piece-item.is c.loop-piece.invariant.end in
    omega (arith, fits.within, c.requires)

pub overflow_add-from : goal.overflow_add-from
overflow_add-from c =
    let fits = room c.loop-piece.end (stretch_size c.args.stretch.now) c.as_slice-piece-items.result.now c.loop-piece.piece-index c.piece-item.result c.loop-piece-test.true c.piece-item.is c.loop-piece.invariant.end in
    let small : c.loop-piece.from + c.old_size-from.result < 2 ^ 64 = omega (arith, fits.behind, fits.within, fits.grown, c.loop-piece.invariant.below, c.old_size-from.ensures, c.requires) in
    search rules

pub overflow_add-end : goal.overflow_add-end
overflow_add-end c =
    let fits = room c.loop-piece.end (stretch_size c.args.stretch.now) c.as_slice-piece-items.result.now c.loop-piece.piece-index c.piece-item.result c.loop-piece-test.true c.piece-item.is c.loop-piece.invariant.end in
    let small : c.placed_at-to.result + c.new_size.result < 2 ^ 64 = omega (arith, fits.within, c.placed_at-to.ensures.place, c.new_size.ensures, c.requires) in
    search rules

pub loop-piece-preserved : goal.loop-piece-preserved
loop-piece-preserved c =
    let ps = c.as_slice-piece-items.result.now in
    let k = c.loop-piece.piece-index in
    let p = c.piece-item.result in
    let from = c.loop-piece.from in
    let end = c.loop-piece.end in
    let within = c.loop-piece-test.true in
    let is = c.piece-item.is in
    let size = stretch_size c.args.stretch.now in
    let left : List Piece = drop (k + 1) ps in
    let to_is = c.placed_at-to.ensures.place in
    let end_is : c.placed_at-to.result + c.new_size.result ≡ place end p + new_size p = omega (arith, to_is, c.new_size.ensures) in
    let from_is : from + c.old_size-from.result ≡ from + old_size p = omega (arith, c.old_size-from.ensures) in
    let fits = room end size ps k p within is c.loop-piece.invariant.end in
    record {
      runs = ap (λ (l : List Run). l ++ pieces_from (from + c.old_size-from.result) (placed_from (c.placed_at-to.result + c.new_size.result) left)) c.in_ok-push_piece.ensures
          ∙ ap (λ (n : ℕ). (c.loop-piece.pieces.items ++ bytes_at from n p) ++ pieces_from (from + c.old_size-from.result) (placed_from (c.placed_at-to.result + c.new_size.result) left)) to_is
          ∙ ap (λ (n : ℕ). (c.loop-piece.pieces.items ++ bytes_at from (place end p) p) ++ pieces_from n (placed_from (c.placed_at-to.result + c.new_size.result) left)) from_is
          ∙ ap (λ (n : ℕ). (c.loop-piece.pieces.items ++ bytes_at from (place end p) p) ++ pieces_from (from + old_size p) (placed_from n left)) end_is
          ∙ runs_next c.loop-piece.pieces.items (pieces_from 0 (placed c.args.stretch.now)) from end ps k p within is c.loop-piece.invariant.runs;
      end = ap (λ (n : ℕ). end_from n left) end_is ∙ end_next end size ps k p within is c.loop-piece.invariant.end;
      old = let next = old_next from (old_length c.args.stretch.now) ps k p within is c.loop-piece.invariant.old in omega (arith, from_is, next);
      below = omega (arith, fits.behind, fits.grown, end_is, from_is, c.loop-piece.invariant.below);
    }
