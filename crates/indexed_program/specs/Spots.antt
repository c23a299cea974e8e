-- Where the blocks of a program stand.
use Rattle.std.specs.Prelude.{Option, slice_get}
use Rattle.std.specs.Option.{option_and_then}
use Rattle.sym_expr.specs.declared.program.Piece.{Piece}
use Rattle.sym_expr.specs.declared.program.Program.{Program}
use Rattle.sym_expr.specs.declared.program.Stretch.{Stretch}
use Rattle.indexed_program.specs.declared.spot.Spot.{Spot}

-- the piece at a spot
abbrev pub piece_at : Program → Spot → Option Piece
piece_at g x = option_and_then (λ (s : Stretch). slice_get s.pieces x.piece) (slice_get g.stretches x.stretch)
