use Rattle.std.proofs.Common.{◌≡◌, ◌+◌, ◌++◌, List, drop}
use Rattle.new_intervals.specs.declared.runs.Run.{Run}
use Rattle.new_intervals.specs.Moving.{old_sizes, AreRuns}
use Rattle.new_intervals.specs.Placed.{placed_all}
use Rattle.new_intervals.proofs.runs.runs_of.Given as goal

abbrev pub invariant-loop-spot : goal.invariant-loop-spot
invariant-loop-spot l = record {
  sum : l.from + old_sizes (placed_all (drop l.spot-index l.spots)) ≡ old_sizes (placed_all l.spots);
  runs : (rest : List Run) → AreRuns l.from rest (placed_all (drop l.spot-index l.spots)) → AreRuns 0 (l.runs.items ++ rest) (placed_all l.spots);
}
