use Rattle.std.proofs.Common.{◌∙◌, ◌+◌, ap, arith, drop}
use Rattle.std.specs.Str.{bytes_eq}
use Rattle.indexmap.specs.IndexMap.{get}
use Rattle.sym_expr.specs.Placing.{end_from, placed}
use Rattle.link_image.specs.Ready.{shifted}
use Rattle.link_image.proofs.Intervals.{end_most, end_same, next_at}
use Rattle.link_image.proofs.Lookup.{ends_from}
use Rattle.link_image.proofs.Steps.{all_kept, piece_kept}
use Rattle.link_image.proofs.index.add_stretch.Goals as goal

pub placed_at-at-requires : goal.placed_at-at-requires
placed_at-at-requires c = let rest = ends_from c.loop-piece.end (drop c.loop-piece.piece-index c.args.stretch.now.pieces) in omega (arith, rest.0, c.loop-piece.invariant.inside, c.requires)

pub overflow_add-start : goal.overflow_add-start
overflow_add-start c =
    let most = end_most c.args.stretch.now.pieces c.loop-piece.piece-index c.loop-piece.end c.piece-item.result (rw c.as_slice-piece-items.ensures at c.loop-piece-test.true) (rw c.as_slice-piece-items.ensures at c.piece-item.is) in
    omega (arith, most, c.placed_at-at.ensures.place, c.loop-piece.invariant.inside, c.requires)

pub new_size-requires : goal.new_size-requires
new_size-requires c =
    let most = end_most c.args.stretch.now.pieces c.loop-piece.piece-index c.loop-piece.end c.piece-item.result (rw c.as_slice-piece-items.ensures at c.loop-piece-test.true) (rw c.as_slice-piece-items.ensures at c.piece-item.is) in
    omega (arith, most, c.loop-piece.invariant.inside, c.requires)

pub overflow_add-end : goal.overflow_add-end
overflow_add-end c =
    let most = end_most c.args.stretch.now.pieces c.loop-piece.piece-index c.loop-piece.end c.piece-item.result (rw c.as_slice-piece-items.ensures at c.loop-piece-test.true) (rw c.as_slice-piece-items.ensures at c.piece-item.is) in
    omega (arith, most, c.placed_at-at.ensures.place, c.new_size.ensures, c.loop-piece.invariant.inside, c.requires)

pub loop-piece-preserved : goal.loop-piece-preserved
loop-piece-preserved c =
    let ps = c.args.stretch.now.pieces in
    let i = c.loop-piece.piece-index in
    let end = c.loop-piece.end in
    let p = c.piece-item.result in
    let lt = rw c.as_slice-piece-items.ensures at c.loop-piece-test.true in
    let is = rw c.as_slice-piece-items.ensures at c.piece-item.is in
    record {
      inside =
          ap (λ a. end_from (a + c.new_size.result) (drop (i + 1) ps)) c.placed_at-at.ensures.place
          ∙ ap (λ n. end_from (next_at end p + n) (drop (i + 1) ps)) c.new_size.ensures
          ∙ end_same ps i end p lt is ∙ c.loop-piece.invariant.inside;
      kept = λ before h. piece_kept c.args.start ps i end p c.placed_at-at.result c.new_size.result before (shifted c.args.start (placed c.args.stretch.now)) (get bytes_eq c.loop-piece.blocks) (get bytes_eq c.add_piece.new.blocks) lt is c.placed_at-at.ensures.place c.new_size.ensures c.in_ok-add_piece.ensures (c.loop-piece.invariant.kept before h);
    }

pub returns : goal.returns
returns c = λ before h. all_kept c.args.start c.args.stretch.now.pieces c.loop-piece.piece-index c.loop-piece.end before (shifted c.args.start (placed c.args.stretch.now)) (get bytes_eq c.loop-piece.blocks) (rw c.as_slice-piece-items.ensures at c.loop-piece-test.false) (c.loop-piece.invariant.kept before h)
