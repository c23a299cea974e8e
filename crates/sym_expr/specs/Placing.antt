-- Where the pieces of an interval lie once words are inserted, and what room the intervals need (the rules are ours).
use Rattle.std.specs.Prelude.{ℕ, ◌+◌, ◌*◌, ◌%◌, ◌==◌, max, if◌then◌else◌, List, [], ◌∷◌, length, map, Option, None, Some}
use Rattle.std.specs.Option.{option_and_then}
use Rattle.sym_expr.specs.declared.shape.Shape.{Shape}
use Rattle.sym_expr.specs.declared.shape.ShapeSpot.{ShapeSpot}
use Rattle.sym_expr.specs.Layouts.{least_from}
use Rattle.sym_expr.specs.Points.{data_size, object_alignment}
use Rattle.sym_expr.specs.declared.program.Piece.{Piece}
use Rattle.sym_expr.specs.declared.program.Stretch.{Stretch}
use Rattle.sym_expr.specs.declared.program.Program.{Program}
use Rattle.sym_expr.specs.declared.program.Piece.TheVariants.{Code as CodePiece, Data as DataPiece, Gap}
use Rattle.sym_expr.specs.Tables.{effective}

-- a piece of an interval at its new offset
pub record Placed : Type 0 where
  pub at : ℕ
  pub piece : Piece

-- a code block grows by four bytes for each inserted word
abbrev pub new_size : Piece → ℕ
new_size (CodePiece b) = 4 * (length b.own + length b.inserted)
new_size (DataPiece b) = data_size b
new_size (Gap bytes) = length bytes

-- what the new offset of a piece is a multiple of: code, gaps and empty blocks stand anywhere
abbrev pub step_of : Piece → ℕ
step_of (CodePiece b) = 1
step_of (DataPiece b) = object_alignment b
step_of (Gap bytes) = 1

-- the pieces one after the other from an offset on, each at the least offset that suits it
abbrev pub placed_from : ℕ → List Piece → List Placed
placed_from at [] = []
placed_from at (p ∷ ps) =
    record { at = least_from at (step_of p) 0; piece = p } ∷ placed_from (least_from at (step_of p) 0 + new_size p) ps

-- where the last of them ends
abbrev pub end_from : ℕ → List Piece → ℕ
end_from at [] = at
end_from at (p ∷ ps) = end_from (least_from at (step_of p) 0 + new_size p) ps

abbrev pub placed : Stretch → List Placed
placed s = placed_from 0 s.pieces

abbrev pub stretch_size : Stretch → ℕ
stretch_size s = end_from 0 s.pieces

-- the alignment that a piece needs at its new offset
abbrev pub needed : Placed → ℕ
needed x = of_piece x.at x.piece
  where
    of_piece : ℕ → Piece → ℕ
    of_piece at (CodePiece b) = 4
    of_piece at (DataPiece b) = effective b.alignment (data_size b) at
    of_piece at (Gap bytes) = 1

-- the greatest that a piece of the interval needs
abbrev pub greatest : List Placed → ℕ
greatest [] = 1
greatest (x ∷ xs) = max (needed x) (greatest xs)

abbrev pub stretch_alignment : Stretch → ℕ
stretch_alignment s = greatest (placed s)

-- the old address modulo 4096, where there was one that suits the alignment
abbrev pub residue_of : ℕ → Option ℕ → Option ℕ
residue_of align address = option_and_then (λ at. if at % align == 0 then Some (at % 4096) else None) address

abbrev pub spot_of : Stretch → ShapeSpot
spot_of s = record {
  interval = s.id;
  size = stretch_size s;
  align = stretch_alignment s;
  residue = residue_of (stretch_alignment s) s.address;
}

-- what a layout of the program must find room for
abbrev pub shape_of : Program → Shape
shape_of g = record { spots = map spot_of g.stretches }
