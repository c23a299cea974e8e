use Rattle.std.proofs.Common.{◌≡◌, ◌++◌, take}
use Rattle.std.specs.List.{flat_map}
use Rattle.taken_ids.specs.NodeIds.{interval_ids}
use Rattle.taken_ids.proofs.nodes.push_intervals.Given as goal

abbrev pub invariant-loop-interval : goal.invariant-loop-interval
invariant-loop-interval l = l.out.items ≡ l.initial.out.items ++ flat_map interval_ids (take l.interval-index l.intervals)
