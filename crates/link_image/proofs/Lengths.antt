-- How many bytes there are.
use Rattle.std.proofs.Common.{◌≡◌, ℕ, ◌+◌, ◌-◌, ◌*◌, List, [], ◌∷◌, ◌++◌, length, replicate, refl, ap, ◌∙◌, arith}
use Rattle.std.specs.List.{AllByRecursion}
use Rattle.std.proofs.lemmas.List.{length-append, length-replicate}
use Rattle.sym_expr.specs.declared.layout.Layout.{Layout}
use Rattle.sym_expr.specs.declared.program.DataBlock.{DataBlock}
use Rattle.sym_expr.specs.declared.program.Filling.{Filling}
use Rattle.sym_expr.specs.declared.program.Piece.{Piece}
use Rattle.sym_expr.specs.declared.program.Piece.TheVariants.{Code as CodePiece, Data as DataPiece, Gap}
use Rattle.sym_expr.specs.declared.program.Program.{Program}
use Rattle.sym_expr.specs.declared.program.Stretch.{Stretch}
use Rattle.sym_expr.specs.declared.program.Word.{Word}
use Rattle.sym_expr.specs.Images.{all_words, bytes_from, bytes_of, filled_word, filling_size, filling_value, fit_or, piece_bytes, stretch_bytes, with_fillings}
use Rattle.sym_expr.specs.Layouts.{address_of}
use Rattle.sym_expr.specs.Placing.{end_from, new_size, placed, placed_from, stretch_size}
use Rattle.sym_expr.specs.WellMade.{IsInside}
use Rattle.link_image.specs.Bytes.{words_bytes}
use Rattle.link_image.specs.Ready.{IsGood, shifted}
use Rattle.link_image.proofs.AllWords.{length-all_words}
use Rattle.link_image.proofs.DataBytes.{length-bytes_of, length-overlaid}
use Rattle.link_image.proofs.Intervals.{bytes_first, next_at}

length-words : (l : Layout) (g : Program) (at : ℕ) (ws : List Word) → length (words_bytes l g at ws) ≡ 4 * length ws
length-words l g at [] = refl
length-words l g at (w ∷ ws) =
    omega (arith, length-append (bytes_of 4 (fit_or w.word (filled_word l g at w))) (words_bytes l g (at + 4) ws), length-bytes_of 4 (fit_or w.word (filled_word l g at w)), length-words l g (at + 4) ws)

length-fillings : (l : Layout) (g : Program) (b : DataBlock) (fs : List (ℕ × Filling)) → AllByRecursion (IsInside g b) fs → length (with_fillings l g fs b.bytes) ≡ length b.bytes
length-fillings l g b [] all = refl
length-fillings l g b (f ∷ fs) all =
    let rest = length-fillings l g b fs all.1 in
    let new = bytes_of (filling_size f.1) (fit_or 0 (filling_value l g f.1)) in
    let size = length-bytes_of (filling_size f.1) (fit_or 0 (filling_value l g f.1)) in
    let here = all.0.0 in
    length-overlaid f.0 new (with_fillings l g fs b.bytes) (omega arith) ∙ rest

pub length-piece : (l : Layout) (g : Program) (at : ℕ) (p : Piece) → IsGood g p → length (piece_bytes l g at p) ≡ new_size p
length-piece l g at (CodePiece b) good = length-words l g at (all_words b) ∙ ap (λ n. 4 * n) (length-all_words g b good)
length-piece l g at (DataPiece b) good = length-fillings l g b b.fillings good.fillings
length-piece l g at (Gap bytes) good = refl

length-pieces : (l : Layout) (g : Program) (start end : ℕ) (ps : List Piece) → AllByRecursion (IsGood g) ps
    → length (bytes_from l g (start + end) (shifted start (placed_from end ps))) + end ≡ end_from end ps
length-pieces l g start end [] good = omega arith
length-pieces l g start end (p ∷ ps) good =
    let at = next_at end p in
    let rest = shifted start (placed_from (at + new_size p) ps) in
    let zeros : List ℕ = replicate (start + at - (start + end)) 0 in
    let sum : start + (at + new_size p) ≡ start + at + new_size p = omega arith in
    let behind : length (bytes_from l g (start + (at + new_size p)) rest) + (at + new_size p) ≡ end_from (at + new_size p) ps = length-pieces l g start (at + new_size p) ps good.1 in
    let same : length (bytes_from l g (start + (at + new_size p)) rest) ≡ length (bytes_from l g (start + at + new_size p) rest) = ap (λ a. length (bytes_from l g a rest)) sum in
    let piece = length-piece l g (start + at) p good.0 in
    let whole : length (bytes_from l g (start + end) (shifted start (placed_from end (p ∷ ps)))) ≡ length (zeros ++ piece_bytes l g (start + at) p) + length (bytes_from l g (start + at + new_size p) rest) =
    length-append (zeros ++ piece_bytes l g (start + at) p) (bytes_from l g (start + at + new_size p) rest) in
    let inner : length (zeros ++ piece_bytes l g (start + at) p) ≡ length zeros + length (piece_bytes l g (start + at) p) = length-append zeros (piece_bytes l g (start + at) p) in
    let padding : length zeros ≡ start + at - (start + end) = length-replicate (start + at - (start + end)) 0 in
    omega arith

pub length-stretch : (l : Layout) (g : Program) (s : Stretch) → AllByRecursion (IsGood g) s.pieces → length (stretch_bytes l g s) ≡ stretch_size s
length-stretch l g s good =
    let all = length-pieces l g (address_of l s.id) 0 s.pieces good in
    let same : length (bytes_from l g (address_of l s.id + 0) (shifted (address_of l s.id) (placed s))) ≡ length (stretch_bytes l g s) = ap length (bytes_first l g s (address_of l s.id) refl) in
    omega arith
