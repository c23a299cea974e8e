-- A program with its patches once more: the pieces of a repaired module, but for what operands and data name.
use Rattle.std.specs.Prelude.{ℕ, ◌+◌, ◌-◌, ◌==◌, if◌then◌else◌, List, [], ◌∷◌, ◌++◌, length, map, replicate, None}
use Rattle.block_parts.specs.declared.parts.Part.{Part}
use Rattle.block_parts.specs.declared.words.PatchedWord.{PatchedWord}
use Rattle.block_parts.specs.Parts.{parts}
use Rattle.gt_model.specs.declared.modules.Module.{Module}
use Rattle.rewrite.specs.Identifiers.{part_id}
use Rattle.sym_expr.specs.declared.program.Piece.{Piece}
use Rattle.sym_expr.specs.declared.program.Piece.TheVariants.{Code as CodePiece, Data as DataPiece, Gap}
use Rattle.sym_expr.specs.declared.program.Program.{Program}
use Rattle.sym_expr.specs.declared.program.Stretch.{Stretch}
use Rattle.sym_expr.specs.declared.program.Word.{Word}
use Rattle.sym_expr.specs.Placing.{Placed, new_size, placed}

-- words, pieces, intervals and programs without what they name
abbrev pub bare_word : Word → Word
bare_word w = record w { target = None }

abbrev pub bare_piece : Piece → Piece
bare_piece (CodePiece b) = CodePiece (record b { own = map bare_word b.own; inserted = map (λ (w : ℕ × Word). (w.0, bare_word w.1)) b.inserted })
bare_piece (DataPiece b) = DataPiece (record b { fillings = [] })
bare_piece (Gap bytes) = Gap bytes

abbrev pub bare_stretch : Stretch → Stretch
bare_stretch s = record s { pieces = map bare_piece s.pieces }

abbrev pub bare_program : Program → Program
bare_program g = record g { stretches = map bare_stretch g.stretches }

-- bytes between blocks, if there are any
abbrev pub gap_of : List ℕ → List Piece
gap_of bytes = if length bytes == 0 then [] else Gap bytes ∷ []

abbrev pub plain_word : PatchedWord → Word
plain_word w = record { word = w.word; target = None }

-- a part of a block that begins at an offset, with all its words its own
abbrev pub part_piece : Module → List ℕ → ℕ → Part → Piece
part_piece m block start q = CodePiece (record { id = part_id m block q; offset = start + q.start; own = map plain_word q.words; inserted = [] })

-- a piece at its new offset, where these bytes end at another and stand behind the last block
abbrev pub piece_behind : Module → List ℕ → ℕ → ℕ → Piece → (List ℕ → List Piece) → List Piece
piece_behind m gap end at (CodePiece b) rest = gap_of (gap ++ replicate (at - end) 0) ++ (map (part_piece m b.id at) (parts b) ++ rest [])
piece_behind m gap end at (DataPiece b) rest = gap_of (gap ++ replicate (at - end) 0) ++ DataPiece (record b { offset = at; fillings = [] }) ∷ rest []
piece_behind m gap end at (Gap bytes) rest = rest (gap ++ bytes)

-- the pieces of an interval once more: code in its parts, data at its new offset, and gaps together with padding
abbrev pub new_pieces : Module → List ℕ → ℕ → List Placed → List Piece
new_pieces m gap end [] = gap_of gap
new_pieces m gap end (x ∷ xs) = piece_behind m gap end x.at x.piece (λ bytes. new_pieces m bytes (x.at + new_size x.piece) xs)

-- the same of an interval and of a program
abbrev pub new_stretch : Module → Stretch → Stretch
new_stretch m s = record s { pieces = new_pieces m [] 0 (placed s) }

abbrev pub new_program : Module → Program → Program
new_program m g = record g { stretches = map (new_stretch m) g.stretches }
