-- New contents have as many bytes as the new size says.
use Rattle.std.proofs.Common.{◌≡◌, ℕ, ◌+◌, ◌-◌, ◌*◌, List, [], ◌∷◌, ◌++◌, length, replicate, refl, ap, ◌∙◌, arith}
use Rattle.std.specs.List.{AllByRecursion as Every, flat_map, filter_map}
use Rattle.std.specs.Prelude.{IfSome}
use Rattle.std.proofs.lemmas.List.{length-append, length-replicate}
use Rattle.rewrite.proofs.Below.{length-all_words}
use Rattle.rewrite.specs.Contents.{bytes_from, new_contents, piece_bytes, word_bytes}
use Rattle.sym_expr.specs.declared.program.Piece.{Piece}
use Rattle.sym_expr.specs.declared.program.Piece.TheVariants.{Code as CodePiece, Data as DataPiece, Gap}
use Rattle.sym_expr.specs.declared.program.Program.{Program}
use Rattle.sym_expr.specs.declared.program.Stretch.{Stretch}
use Rattle.sym_expr.specs.declared.program.Word.{Word}
use Rattle.sym_expr.specs.Images.{all_words}
use Rattle.sym_expr.specs.Layouts.{least_from}
use Rattle.sym_expr.specs.Placing.{end_from, new_size, placed_from, step_of, stretch_size}
use Rattle.sym_expr.specs.Points.{code_of, pieces_of}
use Rattle.sym_expr.specs.WellMade.{well_made, IsCode}
use Rattle.sym_expr.proofs.Lists.{every_back, every_front}

abbrev pub IsGood : Program → Piece → Type 0
IsGood g x = IfSome (code_of x) (IsCode g)

pub length-words : (ws : List Word) → length (flat_map word_bytes ws) ≡ 4 * length ws
length-words [] = refl
length-words (w ∷ ws) = omega (arith, length-append (word_bytes w) (flat_map word_bytes ws), length-words ws)

pub length-piece : (g : Program) (p : Piece) → IsGood g p → length (piece_bytes p) ≡ new_size p
length-piece g (CodePiece b) good = length-words (all_words b) ∙ ap (λ n. 4 * n) (length-all_words g b good)
length-piece g (DataPiece b) good = refl
length-piece g (Gap bytes) good = refl

length-pieces : (g : Program) (end : ℕ) (ps : List Piece) → Every (IsGood g) ps → length (bytes_from end (placed_from end ps)) + end ≡ end_from end ps
length-pieces g end [] good = omega arith
length-pieces g end (p ∷ ps) good =
    let at : ℕ = least_from end (step_of p) 0 in
    let rest : List ℕ = bytes_from (at + new_size p) (placed_from (at + new_size p) ps) in
    let behind = length-pieces g (at + new_size p) ps good.1 in
    let piece = length-piece g p good.0 in
    let zeros : List ℕ = replicate (at - end) 0 in
    let whole : length (bytes_from end (placed_from end (p ∷ ps))) ≡ length (zeros ++ piece_bytes p) + length rest = length-append (zeros ++ piece_bytes p) rest in
    let inner : length (zeros ++ piece_bytes p) ≡ length zeros + length (piece_bytes p) = length-append zeros (piece_bytes p) in
    let padding : length zeros ≡ at - end = length-replicate (at - end) 0 in
    omega arith

-- ---- code blocks of a program

pub good_pieces : (g : Program) (ps : List Piece) → Every (IsCode g) (filter_map code_of ps) → Every (IsGood g) ps
good_pieces g [] h = tt
good_pieces g (CodePiece b ∷ ps) h = (h.0, good_pieces g ps h.1)
good_pieces g (DataPiece b ∷ ps) h = (tt, good_pieces g ps h)
good_pieces g (Gap bytes ∷ ps) h = (tt, good_pieces g ps h)

all_filled : (g : Program) (ss : List Stretch) → Every (IsGood g) (flat_map (λ (s : Stretch). s.pieces) ss) → Every (λ (s : Stretch). length (new_contents s) ≡ stretch_size s) ss
all_filled g [] h = tt
all_filled g (s ∷ ss) h =
    let here = length-pieces g 0 s.pieces (every_front (IsGood g) s.pieces (flat_map (λ (s : Stretch). s.pieces) ss) h) in
    (omega (arith, here), all_filled g ss (every_back (IsGood g) s.pieces (flat_map (λ (s : Stretch). s.pieces) ss) h))

pub filled : (g : Program) → well_made g → Every (λ (s : Stretch). length (new_contents s) ≡ stretch_size s) g.stretches
filled g made = all_filled g g.stretches (good_pieces g (pieces_of g) made.codes)
