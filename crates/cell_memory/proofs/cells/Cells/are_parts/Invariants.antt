use Rattle.std.proofs.Common.{◌≡◌, ◌≤◌, ◌-◌, take, drop}
use Rattle.cell_memory.specs.Shown.{shown}
use Rattle.cell_memory.specs.Wholes.{are_parts_of}
use Rattle.cell_memory.proofs.cells.Cells.are_parts.Given as goal

abbrev pub invariant-loop-place : goal.invariant-loop-place
invariant-loop-place l = record {
  within : l.place ≤ l.count;
  same : are_parts_of 0 l.whole (take l.count (drop l.at (shown l.self))) ≡ are_parts_of l.place l.whole (drop l.place (take l.count (drop l.at (shown l.self))));
}

abbrev pub decreases-loop-place : goal.decreases-loop-place
decreases-loop-place l = l.count - l.place
