-- The cells that a runner keeps: for the contracts of inner functions.
use Rattle.std.specs.Prelude.{ℕ, List}
use Rattle.cell_memory.specs.Memory.{cells_of, HasRoom}
use Rattle.sym_expr.specs.declared.value.Object.{Object}
use Rattle.sym_expr.specs.Values.{Cell}
use Rattle.sym_values.specs.declared.kept.KeptCells.{KeptCells}

-- the cells of each object
unfoldable pub kept_cells : KeptCells → Object → List Cell
kept_cells kept = cells_of kept.memory

-- so many values more can be put into an object for certain
unfoldable pub kept_room : KeptCells → ℕ → Object → Type 0
kept_room kept = HasRoom kept.memory
