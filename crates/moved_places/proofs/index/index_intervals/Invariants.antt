use Rattle.std.proofs.Common.{◌≡◌, ℕ, List, take}
use Rattle.moved_places.specs.Kept.{interval_among, kept_interval}
use Rattle.moved_places.proofs.index.index_intervals.Given as goal

abbrev pub invariant-loop-stretch : goal.invariant-loop-stretch
invariant-loop-stretch l = (q : List ℕ) → kept_interval l.intervals q ≡ interval_among (take l.stretch-index l.stretch-items) q
