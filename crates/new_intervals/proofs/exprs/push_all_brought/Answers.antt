use Rattle.new_intervals.proofs.Listing.{item_roomy}
use Rattle.new_intervals.proofs.exprs.push_all_brought.Goals as goal

pub push_brought-requires : goal.push_brought-requires
push_brought-requires c = item_roomy c.args.spots.now c.loop-spot.spot-index c.spot-item.result c.loop-spot-test.true c.spot-item.is c.requires
