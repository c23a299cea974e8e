use Rattle.std.proofs.Common.{◌≡◌, ◌++◌, drop}
use Rattle.new_intervals.specs.Placed.{placed_all}
use Rattle.rewrite.specs.Contents.{bytes_from}
use Rattle.new_intervals.proofs.contents.new_contents.Given as goal

abbrev pub invariant-loop-spot : goal.invariant-loop-spot
invariant-loop-spot l = l.out.items ++ bytes_from l.end (placed_all (drop l.spot-index l.spots)) ≡ bytes_from 0 (placed_all l.spots)
