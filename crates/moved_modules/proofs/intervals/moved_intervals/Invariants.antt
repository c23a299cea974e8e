use Rattle.std.proofs.Common.{◌≡◌, map, take}
use Rattle.std.specs.Prelude.{filter}
use Rattle.moved_modules.specs.Moved.{is_grown, moved_interval}
use Rattle.moved_modules.proofs.intervals.moved_intervals.Given as goal

abbrev pub invariant-loop-stretch : goal.invariant-loop-stretch
invariant-loop-stretch l = l.intervals.items ≡ map moved_interval (filter is_grown (take l.stretch-index l.stretch-items))
