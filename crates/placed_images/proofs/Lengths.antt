-- How many bytes pieces and intervals have, and that memory which holds an interval's holds those of its pieces.
use Rattle.std.proofs.Common.{◌≡◌, ℕ, zero, suc, ◌+◌, ◌-◌, ◌*◌, ◌/◌, ◌≤◌, List, [], ◌∷◌, ◌++◌, length, replicate, take, drop, refl, sym, ap, subst, ◌∙◌, arith}
use Rattle.std.specs.List.{AllByRecursion as Every, flat_map, filter_map}
use Rattle.std.proofs.lemmas.List.{length-append, length-replicate, length-take, length-drop}
use Rattle.paged_memory.specs.Mapping.{Mapping}
use Rattle.sym_expr.specs.declared.layout.Layout.{Layout}
use Rattle.sym_expr.specs.declared.program.DataBlock.{DataBlock}
use Rattle.sym_expr.specs.declared.program.Filling.{Filling}
use Rattle.sym_expr.specs.declared.program.Piece.{Piece}
use Rattle.sym_expr.specs.declared.program.Piece.TheVariants.{Code as CodePiece, Data as DataPiece, Gap}
use Rattle.sym_expr.specs.declared.program.Program.{Program}
use Rattle.sym_expr.specs.declared.program.Stretch.{Stretch}
use Rattle.sym_expr.specs.declared.program.Word.{Word}
use Rattle.sym_expr.specs.Images.{all_words, bytes_from, bytes_of, filled_word, filling_size, filling_value, fit_or, overlaid, piece_bytes, stretch_bytes, with_fillings, words_at, addressed}
use Rattle.sym_expr.specs.Layouts.{address_of, least_from}
use Rattle.sym_expr.specs.Placing.{Placed, end_from, new_size, placed, placed_from, step_of, stretch_size}
use Rattle.sym_expr.specs.Points.{code_of, data_of, pieces_of}
use Rattle.sym_expr.specs.WellMade.{IsCode, IsData, IsInside, well_made}
use Rattle.placed_images.proofs.Below.{length-all_words}
use Rattle.placed_images.proofs.Found.{shifted}
use Rattle.placed_images.proofs.Lists.{every_part}
use Rattle.placed_images.proofs.Memory.{Holds, holds_at, holds_front, holds_back}

-- a piece of the program is as it should be
abbrev pub IsGood : Program → Piece → Type 0
IsGood g (CodePiece b) = IsCode g b
IsGood g (DataPiece b) = IsData g b
IsGood g (Gap bytes) = Unit {0}

good_pieces : (g : Program) (ps : List Piece) → Every (IsCode g) (filter_map code_of ps) → Every (IsData g) (filter_map data_of ps) → Every (IsGood g) ps
good_pieces g [] codes datas = tt
good_pieces g (CodePiece b ∷ ps) codes datas = (codes.0, good_pieces g ps codes.1 datas)
good_pieces g (DataPiece b ∷ ps) codes datas = (datas.0, good_pieces g ps codes datas.1)
good_pieces g (Gap bytes ∷ ps) codes datas = (tt, good_pieces g ps codes datas)

-- all pieces of an interval are
abbrev pub AreGood : Program → Stretch → Type 0
AreGood g s = Every (IsGood g) s.pieces

pub all_good : (g : Program) → well_made g → Every (AreGood g) g.stretches
all_good g is = every_part (λ (s : Stretch). s.pieces) (IsGood g) g.stretches (good_pieces g (pieces_of g) is.codes is.datas)

-- ---- lengths

pub length-bytes_of : (k n : ℕ) → length (bytes_of k n) ≡ k
length-bytes_of zero n = refl
length-bytes_of (suc k) n = ap suc (length-bytes_of k (n / 256))

pub length-overlaid : (at : ℕ) (new bytes : List ℕ) → at + length new ≤ length bytes → length (overlaid at new bytes) ≡ length bytes
length-overlaid at new bytes le =
    omega (arith, length-append (take at bytes ++ new) (drop (at + length new) bytes), length-append (take at bytes) new, length-take at bytes, length-drop (at + length new) bytes)

-- the bytes of words from an address on
abbrev pub words_bytes : Layout → Program → ℕ → List Word → List ℕ
words_bytes l g at ws = flat_map (λ (w : ℕ × Word). bytes_of 4 (fit_or w.1.word (filled_word l g w.0 w.1))) (words_at at ws)

length-words : (l : Layout) (g : Program) (at : ℕ) (ws : List Word) → length (words_bytes l g at ws) ≡ 4 * length ws
length-words l g at [] = refl
length-words l g at (w ∷ ws) =
    omega (arith, length-append (bytes_of 4 (fit_or w.word (filled_word l g at w))) (words_bytes l g (at + 4) ws), length-bytes_of 4 (fit_or w.word (filled_word l g at w)), length-words l g (at + 4) ws)

pub length-fillings : (l : Layout) (g : Program) (b : DataBlock) (fs : List (ℕ × Filling)) → Every (IsInside g b) fs → length (with_fillings l g fs b.bytes) ≡ length b.bytes
length-fillings l g b [] all = refl
length-fillings l g b (f ∷ fs) all =
    let rest = length-fillings l g b fs all.1 in
    let new = bytes_of (filling_size f.1) (fit_or 0 (filling_value l g f.1)) in
    let size = length-bytes_of (filling_size f.1) (fit_or 0 (filling_value l g f.1)) in
    let here = all.0.0 in
    length-overlaid f.0 new (with_fillings l g fs b.bytes) (omega arith) ∙ rest

pub length-piece : (l : Layout) (g : Program) (at : ℕ) (p : Piece) → IsGood g p → length (piece_bytes l g at p) ≡ new_size p
length-piece l g at (CodePiece b) good = length-words l g at (all_words b) ∙ ap (λ n. 4 * n) (length-all_words g b good)
length-piece l g at (DataPiece b) good = length-fillings l g b b.fillings good.fillings
length-piece l g at (Gap bytes) good = refl

abbrev pub next_at : ℕ → Piece → ℕ
next_at end p = least_from end (step_of p) 0

length-pieces : (l : Layout) (g : Program) (start end : ℕ) (ps : List Piece) → Every (IsGood g) ps
    → length (bytes_from l g (start + end) (shifted start (placed_from end ps))) + end ≡ end_from end ps
length-pieces l g start end [] good = omega arith
length-pieces l g start end (p ∷ ps) good =
    let at = next_at end p in
    let rest = shifted start (placed_from (at + new_size p) ps) in
    let zeros : List ℕ = replicate (start + at - (start + end)) 0 in
    let sum : start + (at + new_size p) ≡ start + at + new_size p = omega arith in
    let behind : length (bytes_from l g (start + (at + new_size p)) rest) + (at + new_size p) ≡ end_from (at + new_size p) ps = length-pieces l g start (at + new_size p) ps good.1 in
    let same : length (bytes_from l g (start + (at + new_size p)) rest) ≡ length (bytes_from l g (start + at + new_size p) rest) = ap (λ a. length (bytes_from l g a rest)) sum in
    let piece = length-piece l g (start + at) p good.0 in
    let whole : length (bytes_from l g (start + end) (shifted start (placed_from end (p ∷ ps)))) ≡ length (zeros ++ piece_bytes l g (start + at) p) + length (bytes_from l g (start + at + new_size p) rest) =
    length-append (zeros ++ piece_bytes l g (start + at) p) (bytes_from l g (start + at + new_size p) rest) in
    let inner : length (zeros ++ piece_bytes l g (start + at) p) ≡ length zeros + length (piece_bytes l g (start + at) p) = length-append zeros (piece_bytes l g (start + at) p) in
    let padding : length zeros ≡ start + at - (start + end) = length-replicate (start + at - (start + end)) 0 in
    omega arith

start_same : (l : Layout) (g : Program) (s : Stretch) → bytes_from l g (address_of l s.id + 0) (shifted (address_of l s.id) (placed s)) ≡ stretch_bytes l g s
start_same l g s =
    let e : address_of l s.id + 0 ≡ address_of l s.id = omega arith in
    ap (λ a. bytes_from l g a (addressed l s)) e

pub length-stretch : (l : Layout) (g : Program) (s : Stretch) → AreGood g s → length (stretch_bytes l g s) ≡ stretch_size s
length-stretch l g s good =
    let all = length-pieces l g (address_of l s.id) 0 s.pieces good in
    let same = ap length (start_same l g s) in
    omega arith

-- ---- in memory

-- memory has the bytes of a piece
abbrev pub HasPiece : Layout → Program → Mapping → Placed → Type 0
HasPiece l g m x = Holds m x.at (piece_bytes l g x.at x.piece)

pieces_held : (l : Layout) (g : Program) (m : Mapping) (start end : ℕ) (ps : List Piece) → Every (IsGood g) ps → Holds m (start + end) (bytes_from l g (start + end) (shifted start (placed_from end ps)))
    → Every (HasPiece l g m) (shifted start (placed_from end ps))
pieces_held l g m start end [] good h = tt
pieces_held l g m start end (p ∷ ps) good h =
    let at = next_at end p in
    let rest = shifted start (placed_from (at + new_size p) ps) in
    let zeros : List ℕ = replicate (start + at - (start + end)) 0 in
    let here = piece_bytes l g (start + at) p in
    let behind = bytes_from l g (start + at + new_size p) rest in
    let padding : length zeros ≡ start + at - (start + end) = length-replicate (start + at - (start + end)) 0 in
    let size = length-piece l g (start + at) p good.0 in
    let both = length-append zeros here in
    let sum : start + at + new_size p ≡ start + (at + new_size p) = omega arith in
    let one = holds_back m zeros here (start + end) (holds_front m (zeros ++ here) behind (start + end) h) in
    let others = holds_back m (zeros ++ here) behind (start + end) h in
    let P : ℕ → Type 0 = λ a. Holds m a (bytes_from l g a rest) in (
      holds_at m (start + end + length zeros) (start + at) here (omega arith) one,
      pieces_held l g m start (at + new_size p) ps good.1 (subst P sum (holds_at m (start + end + length (zeros ++ here)) (start + at + new_size p) behind (omega arith) others)),
    )

pub stretch_held : (l : Layout) (g : Program) (m : Mapping) (s : Stretch) → AreGood g s → Holds m (address_of l s.id) (stretch_bytes l g s) → Every (HasPiece l g m) (addressed l s)
stretch_held l g m s good h =
    let P : List ℕ → Type 0 = λ bs. Holds m (address_of l s.id + 0) bs in
    pieces_held l g m (address_of l s.id) 0 s.pieces good (subst P (sym (start_same l g s)) (holds_at m (address_of l s.id) (address_of l s.id + 0) (stretch_bytes l g s) (omega arith) h))
