-- Where the blocks of a program stand in their intervals, whole and in their parts.
use Rattle.std.specs.Prelude.{ℕ, ◌+◌, List, [], ◌∷◌, map}
use Rattle.block_parts.specs.declared.parts.Part.{Part}
use Rattle.block_parts.specs.Parts.{parts}
use Rattle.gt_model.specs.declared.modules.Module.{Module}
use Rattle.rewrite.specs.Identifiers.{part_id}
use Rattle.sym_expr.specs.declared.program.Piece.{Piece}
use Rattle.sym_expr.specs.declared.program.Piece.TheVariants.{Code as CodePiece, Data as DataPiece, Gap}
use Rattle.sym_expr.specs.Placing.{Placed}

-- the block of a piece, with its offset
abbrev pub piece_spots : ℕ → Piece → List (List ℕ × ℕ)
piece_spots at (CodePiece b) = (b.id, at) ∷ []
piece_spots at (DataPiece b) = (b.id, at) ∷ []
piece_spots at (Gap bytes) = []

abbrev pub old_spots : Placed → List (List ℕ × ℕ)
old_spots x = piece_spots x.at x.piece

-- a part of a block that begins at an offset
abbrev pub part_spot : Module → List ℕ → ℕ → Part → List ℕ × ℕ
part_spot m block at q = (part_id m block q, at + q.start)

-- the blocks that a piece becomes
abbrev pub piece_parts : Module → ℕ → Piece → List (List ℕ × ℕ)
piece_parts m at (CodePiece b) = map (part_spot m b.id at) (parts b)
piece_parts m at (DataPiece b) = (b.id, at) ∷ []
piece_parts m at (Gap bytes) = []

abbrev pub new_spots : Module → Placed → List (List ℕ × ℕ)
new_spots m x = piece_parts m x.at x.piece
