use Rattle.std.proofs.Common.{◌∙◌, ◌++◌, ◌+◌, ℕ, ap, arith, drop}
use Rattle.new_intervals.specs.Placed.{placed_all}
use Rattle.new_intervals.proofs.Walked.{end_most, end_same, ends_behind, next_at, spots_more}
use Rattle.sym_expr.specs.Placing.{end_from, new_size, placed_from}
use Rattle.new_intervals.proofs.spots.Laid.new.Goals as goal

pub placed_at-at-requires : goal.placed_at-at-requires
placed_at-at-requires c = let rest = ends_behind c.loop-piece.end (drop c.loop-piece.piece-index c.args.stretch.now.pieces) in omega (arith, rest, c.loop-piece.invariant.inside, c.requires)

pub new_size-requires : goal.new_size-requires
new_size-requires c =
    let most = end_most c.args.stretch.now.pieces c.loop-piece.piece-index c.loop-piece.end c.piece-item.result (rw c.as_slice-piece-items.ensures at c.loop-piece-test.true) (rw c.as_slice-piece-items.ensures at c.piece-item.is) in
    omega (arith, most, c.loop-piece.invariant.inside, c.requires)

pub overflow_add-end : goal.overflow_add-end
overflow_add-end c =
    let most = end_most c.args.stretch.now.pieces c.loop-piece.piece-index c.loop-piece.end c.piece-item.result (rw c.as_slice-piece-items.ensures at c.loop-piece-test.true) (rw c.as_slice-piece-items.ensures at c.piece-item.is) in
    omega (arith, most, c.placed_at-at.ensures.place, c.new_size.ensures, c.loop-piece.invariant.inside, c.requires)

pub loop-piece-preserved : goal.loop-piece-preserved
loop-piece-preserved c =
    let ps = c.args.stretch.now.pieces in
    let i = c.loop-piece.piece-index in
    let end = c.loop-piece.end in
    let p = c.piece-item.result in
    let lt = rw c.as_slice-piece-items.ensures at c.loop-piece-test.true in
    let is = rw c.as_slice-piece-items.ensures at c.piece-item.is in
    record {
      inside =
          ap (λ a. end_from (a + c.new_size.result) (drop (i + 1) ps)) c.placed_at-at.ensures.place
          ∙ ap (λ n. end_from (next_at end p + n) (drop (i + 1) ps)) c.new_size.ensures
          ∙ end_same ps i end p lt is ∙ c.loop-piece.invariant.inside;
      placed =
          ap (λ a. placed_all c.push.new.self.items ++ placed_from (a + c.new_size.result) (drop (i + 1) ps)) c.placed_at-at.ensures.place
          ∙ ap (λ n. placed_all c.push.new.self.items ++ placed_from (next_at end p + n) (drop (i + 1) ps)) c.new_size.ensures
          ∙ ap (λ l. placed_all l ++ placed_from (next_at end p + new_size p) (drop (i + 1) ps)) c.in_ok-push.ensures.items
          ∙ spots_more ps i end p lt is c.loop-piece.spots.items _ (ap (λ (a : ℕ). record { at = a; piece = p }) c.placed_at-at.ensures.place)
          ∙ c.loop-piece.invariant.placed;
    }
