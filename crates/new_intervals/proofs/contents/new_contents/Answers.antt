use Rattle.std.proofs.Common.{◌++◌, ◌+◌, ◌-◌, ap, ◌∙◌, arith, drop, replicate}
use Rattle.new_intervals.specs.Placed.{placed_all}
use Rattle.new_intervals.proofs.Listing.{bytes_next, item_roomy}
use Rattle.rewrite.specs.Contents.{bytes_from, piece_bytes}
use Rattle.new_intervals.proofs.contents.new_contents.Goals as goal

pub new_size-requires : goal.new_size-requires
new_size-requires c =
    let roomy = item_roomy c.args.spots.now c.loop-spot.spot-index c.spot-item.result c.loop-spot-test.true c.spot-item.is c.requires in
    let room = roomy.room in
    omega arith

pub overflow_add-end : goal.overflow_add-end
overflow_add-end c =
    let roomy = item_roomy c.args.spots.now c.loop-spot.spot-index c.spot-item.result c.loop-spot-test.true c.spot-item.is c.requires in
    let room = roomy.room in
    omega (arith, c.new_size.ensures)

pub loop-spot-preserved : goal.loop-spot-preserved
loop-spot-preserved c =
    let xs = c.args.spots.now in
    let i = c.loop-spot.spot-index in
    let x = c.spot-item.result in
    let rest = placed_all (drop (i + 1) xs) in
    ap (λ l. l ++ bytes_from (x.at + c.new_size.result) rest) (c.in_ok-push_piece.ensures ∙ ap (λ l. l ++ piece_bytes x.piece.now) (c.in_ok-push_zeros.ensures ∙ ap (λ n. c.loop-spot.out.items ++ replicate n 0) c.saturating_sub.ensures))
    ∙ ap (λ n. ((c.loop-spot.out.items ++ replicate (x.at - c.loop-spot.end) 0) ++ piece_bytes x.piece.now) ++ bytes_from (x.at + n) rest) c.new_size.ensures
    ∙ bytes_next xs i x c.loop-spot-test.true c.spot-item.is c.loop-spot.end c.loop-spot.out.items
    ∙ c.loop-spot.invariant
