use Rattle.std.proofs.Common.{◌≡◌, ℕ, List, take}
use Rattle.std.specs.Str.{bytes_eq}
use Rattle.indexmap.specs.IndexSet.{contains}
use Rattle.layout_plan.specs.Faults.{is_known}
use Rattle.layout_plan.proofs.index.known_intervals.Given as goal

abbrev pub invariant-loop-spot : goal.invariant-loop-spot
invariant-loop-spot l = (id : List ℕ) → contains bytes_eq l.known id ≡ is_known (take l.spot-index l.spots) id
