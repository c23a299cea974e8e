-- The memory of a symbolic machine as the cells of each object.
use Rattle.std.specs.Prelude.{ℕ, ◌≤◌, if◌then◌else◌, IfSome, List, []}
use Rattle.std.specs.Option.{option_map_or}
use Rattle.std.specs.Str.{bytes_eq}
use Rattle.indexmap.specs.IndexMap.{get, spare}
use Rattle.cell_memory.specs.declared.cells.Cells.{Cells}
use Rattle.cell_memory.specs.declared.memory.CellMemory.{CellMemory}
use Rattle.cell_memory.specs.Shown.{shown}
use Rattle.sym_expr.specs.declared.value.Object.{Object}
use Rattle.sym_expr.specs.declared.value.Object.TheVariants.{Block, Stack}
use Rattle.sym_expr.specs.States.{placed_cells}
use Rattle.sym_expr.specs.Values.{Cell, same_object}

-- the cells of each object
abbrev pub cells_of : CellMemory → Object → List Cell
cells_of memory (Block id) = option_map_or shown (get bytes_eq memory.blocks id) []
cells_of memory Stack = shown memory.stack

-- the cells of each object, with others in one from an offset on
abbrev pub placed_in : (Object → List Cell) → Object → ℕ → List Cell → Object → List Cell
placed_in cells object at new other = if same_object object other then placed_cells at new (cells other) else cells other

-- how many wholes more an object can take for certain
abbrev pub room : Cells → ℕ
room c = spare c.wholes

-- so many values more can be put into an object for certain, of whatever kind
abbrev pub HasRoom : CellMemory → ℕ → Object → Type 0
HasRoom memory count (Block id) = IfSome (get bytes_eq memory.blocks id) (λ c. count ≤ room c)
HasRoom memory count Stack = count ≤ room memory.stack
