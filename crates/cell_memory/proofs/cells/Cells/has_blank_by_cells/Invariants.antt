use Rattle.std.proofs.Common.{◌≡◌, ◌≤◌, ◌-◌, take, drop}
use Rattle.std.specs.List.{list_any}
use Rattle.cell_memory.specs.Shown.{shown}
use Rattle.sym_expr.specs.Symbolic.{is_blank}
use Rattle.cell_memory.proofs.cells.Cells.has_blank_by_cells.Given as goal

abbrev pub invariant-loop-done : goal.invariant-loop-done
invariant-loop-done l = record {
  within : l.done ≤ l.count;
  same : list_any is_blank (take l.count (drop l.at (shown l.self))) ≡ list_any is_blank (drop l.done (take l.count (drop l.at (shown l.self))));
}

abbrev pub decreases-loop-done : goal.decreases-loop-done
decreases-loop-done l = l.count - l.done
