use Rattle.std.proofs.Common.{◌≡◌, ◌≤◌, length, drop}
use Rattle.cell_memory.specs.Shown.{shown}
use Rattle.sym_expr.specs.States.{first_cells}
use Rattle.cell_memory.proofs.block.block_cells.Given as goal

abbrev pub invariant-loop-left : goal.invariant-loop-left
invariant-loop-left l = record {
  within : l.left ≤ length l.block.fillings;
  cells : shown l.cells ≡ first_cells (drop l.left l.block.fillings) l.block.bytes;
}

abbrev pub decreases-loop-left : goal.decreases-loop-left
decreases-loop-left l = l.left
