-- The data blocks of a program as they are kept: for the contracts of inner functions.
use Rattle.std.specs.Prelude.{◌≤◌, ℕ, ◌+◌, List, length, find, Option}
use Rattle.std.specs.List.{AllByRecursion, filter_map}
use Rattle.std.specs.Str.{bytes_eq}
use Rattle.sym_expr.specs.declared.program.DataBlock.{DataBlock}
use Rattle.sym_expr.specs.declared.program.Filling.{Filling}
use Rattle.sym_expr.specs.declared.program.Piece.{Piece}
use Rattle.sym_expr.specs.Images.{filling_size}
use Rattle.sym_expr.specs.Points.{data_of}

-- what stands for an expression has at most eight bytes, and lies inside so many
abbrev pub Fits : ℕ → (ℕ × Filling) → Type 0
Fits size f = (filling_size f.1 ≤ 8) × (f.0 + filling_size f.1 ≤ size)

abbrev pub IsFit : DataBlock → Type 0
IsFit b = AllByRecursion (Fits (length b.bytes)) b.fillings

-- all data blocks of these pieces are so
abbrev pub AreFit : List Piece → Type 0
AreFit pieces = AllByRecursion IsFit (filter_map data_of pieces)

-- the data block of an identifier
abbrev pub data_in : List Piece → List ℕ → Option DataBlock
data_in pieces id = find (λ (b : DataBlock). bytes_eq b.id id) (filter_map data_of pieces)
