-- What blocks become, by where the pieces of their identifiers are.
use Rattle.std.specs.Prelude.{◌<◌, ℕ, ◌+◌, ◌*◌, ◌^◌, List, [], ◌∷◌, length, map, Option, None, Some}
use Rattle.std.specs.Option.{option_map_or}
use Rattle.block_parts.specs.declared.parts.Part.{Part}
use Rattle.block_parts.specs.Parts.{parts}
use Rattle.gt_model.specs.declared.intervals.Block.{Block}
use Rattle.gt_model.specs.declared.intervals.Body.{Body}
use Rattle.gt_model.specs.declared.intervals.Body.TheVariants as bodies
use Rattle.gt_model.specs.declared.modules.Module.{Module}
use Rattle.rewrite.specs.Blocks.{part_block}
use Rattle.sym_expr.specs.declared.program.Piece.{Piece}
use Rattle.sym_expr.specs.declared.program.Piece.TheVariants.{Code as CodePiece, Data as DataPiece, Gap}
use Rattle.sym_expr.specs.Placing.{Placed}

-- the end of a part of a block at an offset is a number of 64 bits
abbrev pub EndsAt : ℕ → Part → Type 0
EndsAt at q = at + q.start + 4 * length q.words < 2 ^ 63

-- the parts of the code block that a piece is
abbrev pub parts_in : Module → List ℕ → ℕ → Placed → List Block
parts_in m block decode_mode x = of_piece x.piece
  where
    of_piece : Piece → List Block
    of_piece (CodePiece b) = map (part_block m block decode_mode x.at) (parts b)
    of_piece (DataPiece b) = []
    of_piece (Gap bytes) = []

abbrev pub parts_where : Module → List ℕ → ℕ → Option Placed → List Block
parts_where m block decode_mode None = []
parts_where m block decode_mode (Some x) = parts_in m block decode_mode x

abbrev pub start_where : Option Placed → ℕ
start_where o = option_map_or (λ (x : Placed). x.at) o 0

-- what a block becomes, where this is said of each identifier
abbrev pub block_where : Module → (List ℕ → Option Placed) → Block → List Block
block_where m at b = of_body b.body
  where
    of_body : Body → List Block
    of_body bodies.Bare = b ∷ []
    of_body (bodies.Code uuid size decode_mode) = parts_where m uuid decode_mode (at uuid)
    of_body (bodies.Data uuid size) = record b { offset = start_where (at uuid) } ∷ []
