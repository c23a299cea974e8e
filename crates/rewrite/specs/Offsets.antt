-- Where the bytes of an interval go once words are inserted (the rules are ours).
use Rattle.std.specs.Prelude.{ℕ, ◌+◌, ◌-◌, ◌*◌, nat_lt, if◌then◌else◌, List, [], ◌∷◌, length, find}
use Rattle.std.specs.Option.{option_map_or}
use Rattle.sym_expr.specs.declared.program.Piece.{Piece}
use Rattle.sym_expr.specs.declared.program.Piece.TheVariants.{Code as CodePiece, Data as DataPiece, Gap}
use Rattle.sym_expr.specs.declared.program.Stretch.{Stretch}
use Rattle.sym_expr.specs.Images.{inserted_below, is_block}
use Rattle.sym_expr.specs.Placing.{Placed, placed, new_size}
use Rattle.sym_expr.specs.Points.{code_size, data_size}

-- the size of a piece before anything is inserted
abbrev pub old_size : Piece → ℕ
old_size (CodePiece b) = code_size b
old_size (DataPiece b) = data_size b
old_size (Gap bytes) = length bytes

-- how far a byte of a piece is behind its new start: the words that are inserted up to the byte stand before it
abbrev pub new_depth : ℕ → Piece → ℕ
new_depth depth (CodePiece b) = depth + 4 * inserted_below (depth + 1) b
new_depth depth (DataPiece b) = depth
new_depth depth (Gap bytes) = depth

-- the new offset of the byte at an old one, where the pieces have the bytes from another old one on; behind all of them
-- it is the end that they reach
abbrev pub offset_among : ℕ → ℕ → ℕ → List Placed → ℕ
offset_among at from end [] = end
offset_among at from end (x ∷ xs) =
    if nat_lt at (from + old_size x.piece) then x.at + new_depth (at - from) x.piece
    else offset_among at (from + old_size x.piece) (x.at + new_size x.piece) xs

-- the new offset of a byte of an interval, and of its end
abbrev pub new_offset : Stretch → ℕ → ℕ
new_offset s at = offset_among at 0 0 (placed s)

-- where a block of an interval begins
abbrev pub new_start : Stretch → List ℕ → ℕ
new_start s id = option_map_or (λ (x : Placed). x.at) (find (λ (x : Placed). is_block id x.piece) (placed s)) 0
