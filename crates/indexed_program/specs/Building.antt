-- What the making of the indexes keeps true.
use Rattle.std.specs.Prelude.{◌≡◌, ◌+◌, ◌==◌, ℕ, suc, if◌then◌else◌, Option, Some, None, slice_get, drop}
use Rattle.std.specs.Option.{option_and_then}
use Rattle.sym_expr.specs.declared.program.CodeBlock.{CodeBlock}
use Rattle.sym_expr.specs.declared.program.Piece.{Piece}
use Rattle.sym_expr.specs.declared.program.Program.{Program}
use Rattle.sym_expr.specs.declared.program.Stretch.{Stretch}
use Rattle.sym_expr.specs.Placing.{placed}
use Rattle.sym_expr.specs.Points.{code_size, first_code, reached}
use Rattle.sym_expr.specs.Targets.{start_of}
use Rattle.sym_expr.specs.WellMade.{well_made}
use Rattle.indexed_program.specs.declared.spot.Ahead.{Ahead}
use Rattle.indexed_program.specs.declared.spot.Spot.{Spot}

-- a code block that comes next is as it is told
abbrev pub IsAhead : Program → Option CodeBlock → Option Ahead → Type 0
IsAhead g None None = Unit {0}
IsAhead g None (Some a) = ⊥
IsAhead g (Some c) None = ⊥
IsAhead g (Some c) (Some a) = (a.offset ≡ c.offset) × (a.leads ≡ reached g (start_of c.id))

-- the block that comes next, if it begins where another ends
abbrev pub adjacent : CodeBlock → Option CodeBlock → Option CodeBlock
adjacent b next = option_and_then (λ (c : CodeBlock). if c.offset == b.offset + code_size b then Some c else None) next

-- a piece stands at a spot of a well-made program, at an offset of its interval once words are inserted,
-- and what comes next behind it is told
pub record StandsAt (g : Program) (s : Stretch) (spot : Spot) (at : ℕ) (p : Piece) (ahead : Option Ahead) : Type 0 where
  pub well : well_made g
  pub at_stretch : slice_get g.stretches spot.stretch ≡ Some s
  pub at_piece : slice_get (placed s) spot.piece ≡ Some (record { at = at; piece = p })
  pub next : IsAhead g (first_code (drop (suc spot.piece) s.pieces)) ahead
