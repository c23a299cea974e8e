use Rattle.std.proofs.Common.{arith, drop}
use Rattle.link_image.proofs.Intervals.{end_most}
use Rattle.link_image.proofs.Lookup.{ends_from}
use Rattle.link_image.proofs.linking.stretch_size.Goals as goal

pub placed_at-requires : goal.placed_at-requires
placed_at-requires c = let rest = ends_from c.loop-piece.end (drop c.loop-piece.piece-index c.args.stretch.now.pieces) in omega (arith, rest.0, c.loop-piece.invariant, c.requires)

pub new_size-requires : goal.new_size-requires
new_size-requires c =
    let most = end_most c.args.stretch.now.pieces c.loop-piece.piece-index c.loop-piece.end c.piece-item.result (rw c.as_slice-piece-items.ensures at c.loop-piece-test.true) (rw c.as_slice-piece-items.ensures at c.piece-item.is) in
    omega (arith, most, c.loop-piece.invariant, c.requires)

pub overflow_add-end : goal.overflow_add-end
overflow_add-end c =
    let most = end_most c.args.stretch.now.pieces c.loop-piece.piece-index c.loop-piece.end c.piece-item.result (rw c.as_slice-piece-items.ensures at c.loop-piece-test.true) (rw c.as_slice-piece-items.ensures at c.piece-item.is) in
    omega (arith, most, c.placed_at.ensures.place, c.new_size.ensures, c.loop-piece.invariant, c.requires)
