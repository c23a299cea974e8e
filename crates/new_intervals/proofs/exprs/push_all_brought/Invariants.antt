use Rattle.std.proofs.Common.{◌≡◌, ◌++◌, drop}
use Rattle.std.specs.List.{flat_map}
use Rattle.new_intervals.specs.Inserting.{brought_by}
use Rattle.new_intervals.specs.Placed.{placed_all}
use Rattle.new_intervals.proofs.exprs.push_all_brought.Given as goal

abbrev pub invariant-loop-spot : goal.invariant-loop-spot
invariant-loop-spot l = l.out.items ++ flat_map (brought_by l.inserts) (placed_all (drop l.spot-index l.spots)) ≡ l.fn.out.items ++ flat_map (brought_by l.inserts) (placed_all l.spots)
