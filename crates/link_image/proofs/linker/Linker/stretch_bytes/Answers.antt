use Rattle.std.proofs.Common.{arith, drop}
use Rattle.link_image.proofs.Intervals.{Filled, end_most, filled_more}
use Rattle.link_image.proofs.Lookup.{ends_from}
use Rattle.link_image.proofs.linker.Linker.stretch_bytes.Goals as goal

pub placed_at-at-requires : goal.placed_at-at-requires
placed_at-at-requires c = let rest = ends_from c.loop-piece.end (drop c.loop-piece.piece-index c.args.stretch.now.pieces) in omega (arith, rest.0, c.loop-piece.invariant.inside, c.requires.fits)

pub push_piece-requires-clause-fits : goal.push_piece-requires-clause-fits
push_piece-requires-clause-fits c =
    let most = end_most c.args.stretch.now.pieces c.loop-piece.piece-index c.loop-piece.end c.piece-item.result (rw c.as_slice-piece-items.ensures at c.loop-piece-test.true) (rw c.as_slice-piece-items.ensures at c.piece-item.is) in
    omega (arith, most, c.placed_at-at.ensures.place, c.loop-piece.invariant.inside, c.requires.fits)

pub new_size-requires : goal.new_size-requires
new_size-requires c =
    let most = end_most c.args.stretch.now.pieces c.loop-piece.piece-index c.loop-piece.end c.piece-item.result (rw c.as_slice-piece-items.ensures at c.loop-piece-test.true) (rw c.as_slice-piece-items.ensures at c.piece-item.is) in
    omega (arith, most, c.loop-piece.invariant.inside, c.requires.fits)

pub overflow_add-end : goal.overflow_add-end
overflow_add-end c =
    let most = end_most c.args.stretch.now.pieces c.loop-piece.piece-index c.loop-piece.end c.piece-item.result (rw c.as_slice-piece-items.ensures at c.loop-piece-test.true) (rw c.as_slice-piece-items.ensures at c.piece-item.is) in
    omega (arith, most, c.placed_at-at.ensures.place, c.new_size.ensures, c.loop-piece.invariant.inside, c.requires.fits)

pub loop-piece-preserved : goal.loop-piece-preserved
loop-piece-preserved c =
    let before : Filled c.args.self.now.layout.now c.args.self.now.program.now c.args.stretch.now c.args.start c.loop-piece.piece-index c.loop-piece.end c.loop-piece.out.items = record { inside = c.loop-piece.invariant.inside; faults = c.loop-piece.invariant.faults; bytes = c.loop-piece.invariant.bytes } in
    let more = filled_more c.args.self.now.layout.now c.args.self.now.program.now c.args.stretch.now c.args.start c.loop-piece.piece-index c.loop-piece.end c.piece-item.result c.placed_at-at.result c.new_size.result c.loop-piece.out.items c.push_zeros.new.out.items c.push_piece.new.out.items
    (rw c.as_slice-piece-items.ensures at c.loop-piece-test.true) (rw c.as_slice-piece-items.ensures at c.piece-item.is) c.placed_at-at.ensures.place c.new_size.ensures c.in_ok-push_piece.ensures.fault c.in_ok-push_zeros.ensures c.in_ok-push_piece.ensures.bytes before in
    record { inside = more.inside; faults = more.faults; bytes = more.bytes }
