-- The bytes of an interval once words are inserted: its pieces one behind the other, and zeros before those that need a multiple.
use Rattle.std.specs.Prelude.{ℕ, ◌+◌, ◌-◌, List, [], ◌∷◌, ◌++◌, replicate}
use Rattle.std.specs.List.{flat_map}
use Rattle.sym_expr.specs.declared.program.Piece.{Piece}
use Rattle.sym_expr.specs.declared.program.Piece.TheVariants.{Code as CodePiece, Data as DataPiece, Gap}
use Rattle.sym_expr.specs.declared.program.Stretch.{Stretch}
use Rattle.sym_expr.specs.declared.program.Word.{Word}
use Rattle.sym_expr.specs.Images.{all_words, bytes_of}
use Rattle.sym_expr.specs.Placing.{Placed, placed, new_size}

-- the bytes of a word whose operand isn't filled in
abbrev pub word_bytes : Word → List ℕ
word_bytes w = bytes_of 4 w.word

-- those of a piece
abbrev pub piece_bytes : Piece → List ℕ
piece_bytes (CodePiece b) = flat_map word_bytes (all_words b)
piece_bytes (DataPiece b) = b.bytes
piece_bytes (Gap bytes) = bytes

-- those of placed pieces from an offset on
abbrev pub bytes_from : ℕ → List Placed → List ℕ
bytes_from at [] = []
bytes_from at (x ∷ xs) = replicate (x.at - at) 0 ++ piece_bytes x.piece ++ bytes_from (x.at + new_size x.piece) xs

abbrev pub new_contents : Stretch → List ℕ
new_contents s = bytes_from 0 (placed s)

-- the bytes that a piece and an interval had before
abbrev pub old_piece_bytes : Piece → List ℕ
old_piece_bytes (CodePiece b) = flat_map word_bytes b.own
old_piece_bytes (DataPiece b) = b.bytes
old_piece_bytes (Gap bytes) = bytes

abbrev pub old_contents : Stretch → List ℕ
old_contents s = flat_map old_piece_bytes s.pieces
