-- Each byte of an interval is found at its new offset.
use Rattle.std.proofs.Common.{◌≡◌, ℕ, ◌+◌, ◌-◌, ◌*◌, ◌%◌, ◌<◌, ◌≤◌, List, [], ◌∷◌, ◌++◌, length, get_or, replicate, refl, sym, ap, ◌∙◌, inl, inr, arith}
use Rattle.std.specs.Prelude.{nat_lt, slice_index, sum_by}
use Rattle.std.specs.List.{AllByRecursion as Every, flat_map}
use Rattle.std.proofs.lemmas.Bool.{cases_lt, lt-ltb, le-ltb}
use Rattle.std.proofs.lemmas.List.{get_or-append-add, length-append, length-replicate}
use Rattle.std.proofs.lemmas.List.Concat.{flat_map-append}
use Rattle.std.proofs.lemmas.List.Sums.{sum_by-cons}
use Rattle.std.proofs.Math.ListN.{get_or-append}
use Rattle.rewrite.specs.Contents.{bytes_from, new_contents, old_contents, old_piece_bytes, piece_bytes, word_bytes}
use Rattle.rewrite.specs.Offsets.{new_depth, new_offset, offset_among, old_size}
use Rattle.rewrite.specs.Rooms.{old_length}
use Rattle.rewrite.proofs.Below.{below_more, below_none, count, count_first, one_if}
use Rattle.rewrite.proofs.Lengths.{IsGood, good_pieces, length-piece, length-words}
use Rattle.rewrite.proofs.Order.{behind, below_grows, depth_most, first, here, later}
use Rattle.sym_expr.specs.declared.program.CodeBlock.{CodeBlock}
use Rattle.sym_expr.specs.declared.program.Piece.{Piece}
use Rattle.sym_expr.specs.declared.program.Piece.TheVariants.{Code as CodePiece, Data as DataPiece, Gap}
use Rattle.sym_expr.specs.declared.program.Program.{Program}
use Rattle.sym_expr.specs.declared.program.Stretch.{Stretch}
use Rattle.sym_expr.specs.declared.program.Word.{Word}
use Rattle.sym_expr.specs.Images.{inserted_below, words_from}
use Rattle.sym_expr.specs.Layouts.{least_from}
use Rattle.sym_expr.specs.Placing.{new_size, placed_from, step_of}
use Rattle.sym_expr.specs.Points.{ins, pieces_of}
use Rattle.sym_expr.specs.WellMade.{well_made, IsCode, IsInserted}
use Rattle.sym_expr.proofs.Lists.{every_back, every_front, every_weaker}

-- ---- inserted words stand before whole words

abbrev OnFour : ℕ × Word → Type 0
OnFour w = w.0 % 4 ≡ 0

one_same : (w o d : ℕ) → w % 4 ≡ 0 → o % 4 ≡ 0 → d < 4 → one_if (nat_lt w (o + d + 1)) ≡ one_if (nat_lt w (o + 4))
one_same w o d hw ho small =
    elim (cases_lt w (o + d + 1)) [
      | inl below ↦
          let x = ap one_if (lt-ltb w (o + d + 1) below) in
          let y = ap one_if (lt-ltb w (o + 4) (omega arith)) in
          omega arith
      | inr above ↦
          let next : o + 4 ≤ w = omega arith in
          let x = ap one_if (le-ltb w (o + d + 1) above) in
          let y = ap one_if (le-ltb w (o + 4) next) in
          omega arith
    ]

count_same : (o d : ℕ) (ws : List (ℕ × Word)) → o % 4 ≡ 0 → d < 4 → Every OnFour ws → count (λ (w : ℕ × Word). nat_lt w.0 (o + d + 1)) ws ≡ count (λ (w : ℕ × Word). nat_lt w.0 (o + 4)) ws
count_same o d [] whole small h = refl
count_same o d (w ∷ ws) whole small h =
    let x = count_first (λ (w : ℕ × Word). nat_lt w.0 (o + d + 1)) w ws in
    let y = count_first (λ (w : ℕ × Word). nat_lt w.0 (o + 4)) w ws in
    let one = one_same w.0 o d h.0 whole small in
    let rest = count_same o d ws whole small h.1 in
    omega arith

-- ---- in a code block

abbrev bytes_of_words : List Word → List ℕ
bytes_of_words ws = flat_map word_bytes ws

module _ (g : Program) (b : CodeBlock) (is : IsCode g b) where
  below_same : (o d : ℕ) → o % 4 ≡ 0 → d < 4 → inserted_below (o + d + 1) b ≡ inserted_below (o + 4) b
  below_same o d whole small = count_same o d b.inserted whole small (every_weaker (IsInserted g b) OnFour (λ w h. h.0) b.inserted is.inserted)

  words_found : (o d : ℕ) (ws : List Word) → o % 4 ≡ 0 → d < 4 * length ws
      → get_or (bytes_of_words (words_from b o ws)) (d + 4 * (inserted_below (o + d + 1) b - inserted_below o b)) 0 ≡ get_or (bytes_of_words ws) d 0
  words_found o d [] whole lt = absurd (omega arith)
  words_found o d (w ∷ ws) whole lt =
      let rest : List ℕ = bytes_of_words (words_from b (o + 4) ws) in
      let front : List ℕ = bytes_of_words (ins b o) in
      let split : bytes_of_words (words_from b o (w ∷ ws)) ≡ front ++ (word_bytes w ++ rest) = flat_map-append word_bytes (ins b o) (w ∷ words_from b (o + 4) ws) in
      let size : length front ≡ 4 * length (ins b o) = length-words (ins b o) in
      let four : length (word_bytes w) ≡ 4 = refl in
      let more = below_more g b is o whole in
      elim (cases_lt d 4) [
        | inl small ↦
            let same = below_same o d whole small in
            let index : d + 4 * (inserted_below (o + d + 1) b - inserted_below o b) ≡ length front + d = omega arith in
            ap (λ l. get_or l (d + 4 * (inserted_below (o + d + 1) b - inserted_below o b)) 0) split
            ∙ ap (λ n. get_or (front ++ (word_bytes w ++ rest)) n 0) index
            ∙ get_or-append-add front (word_bytes w ++ rest) d 0
            ∙ get_or-append (word_bytes w) rest 0 d (omega (arith, four))
            ∙ sym (get_or-append (word_bytes w) (bytes_of_words ws) 0 d (omega (arith, four)))
        | inr large ↦
            let e : ℕ = d - 4 in
            let same : inserted_below (o + d + 1) b ≡ inserted_below (o + 4 + e + 1) b = ap (λ n. inserted_below n b) (omega arith) in
            let grown : inserted_below (o + 4) b ≤ inserted_below (o + 4 + e + 1) b = below_grows (o + 4) (o + 4 + e + 1) b.inserted (omega arith) in
            let x : ℕ = e + 4 * (inserted_below (o + 4 + e + 1) b - inserted_below (o + 4) b) in
            let index : d + 4 * (inserted_below (o + d + 1) b - inserted_below o b) ≡ length front + (length (word_bytes w) + x) = omega (arith, same, grown, size, four, more, large) in
            let place : d ≡ length (word_bytes w) + e = omega (arith, four, large) in
            ap (λ l. get_or l (d + 4 * (inserted_below (o + d + 1) b - inserted_below o b)) 0) split
            ∙ ap (λ n. get_or (front ++ (word_bytes w ++ rest)) n 0) index
            ∙ get_or-append-add front (word_bytes w ++ rest) (length (word_bytes w) + x) 0
            ∙ get_or-append-add (word_bytes w) rest x 0
            ∙ words_found (o + 4) e ws (omega arith) (omega arith)
            ∙ sym (get_or-append-add (word_bytes w) (bytes_of_words ws) e 0)
            ∙ ap (λ n. get_or (word_bytes w ++ bytes_of_words ws) n 0) (sym place)
      ]

  code_found : (d : ℕ) → d < 4 * length b.own → get_or (piece_bytes (CodePiece b)) (new_depth d (CodePiece b)) 0 ≡ get_or (bytes_of_words b.own) d 0
  code_found d lt =
      let none = below_none g b is in
      let same : inserted_below (0 + d + 1) b ≡ inserted_below (d + 1) b = ap (λ n. inserted_below n b) (omega arith) in
      let index : new_depth d (CodePiece b) ≡ d + 4 * (inserted_below (0 + d + 1) b - inserted_below 0 b) = omega (arith, none, same) in
      ap (λ n. get_or (piece_bytes (CodePiece b)) n 0) index ∙ words_found 0 d b.own refl lt

-- ---- in a piece

piece_found : (g : Program) (p : Piece) → IsGood g p → (d : ℕ) → d < old_size p → get_or (piece_bytes p) (new_depth d p) 0 ≡ get_or (old_piece_bytes p) d 0
piece_found g (CodePiece b) good d lt = code_found g b good d lt
piece_found g (DataPiece b) good d lt = refl
piece_found g (Gap bytes) good d lt = refl

old_length_of : (p : Piece) → length (old_piece_bytes p) ≡ old_size p
old_length_of (CodePiece b) = length-words b.own
old_length_of (DataPiece b) = refl
old_length_of (Gap bytes) = refl

-- ---- among pieces

found : (g : Program) (at from end : ℕ) (ps : List Piece) → Every (IsGood g) ps → from ≤ at → at < from + sum_by old_size ps
    → get_or (bytes_from end (placed_from end ps)) (offset_among at from end (placed_from end ps) - end) 0 ≡ get_or (flat_map old_piece_bytes ps) (at - from) 0
found g at from end [] good low lt = absurd (omega arith)
found g at from end (p ∷ ps) good low lt =
    let place : ℕ = least_from end (step_of p) 0 in
    let next : ℕ = place + new_size p in
    let zeros : List ℕ = replicate (place - end) 0 in
    let rest : List ℕ = bytes_from next (placed_from next ps) in
    let padding : length zeros ≡ place - end = length-replicate (place - end) 0 in
    let size = length-piece g p good.0 in
    let old = old_length_of p in
    let total = sum_by-cons old_size p ps in
    let front : length (zeros ++ piece_bytes p) ≡ length zeros + length (piece_bytes p) = length-append zeros (piece_bytes p) in
    elim (cases_lt at (from + old_size p)) [
      | inl inside ↦
          let depth : ℕ = new_depth (at - from) p in
          let goes = here at from end (first end p) (placed_from next ps) inside in
          let most : depth < new_size p = depth_most (at - from) p (omega arith) in
          let index : offset_among at from end (placed_from end (p ∷ ps)) - end ≡ length zeros + depth = omega (arith, goes, padding) in
          ap (λ n. get_or ((zeros ++ piece_bytes p) ++ rest) n 0) index
          ∙ get_or-append (zeros ++ piece_bytes p) rest 0 (length zeros + depth) (omega (arith, front, size, most))
          ∙ get_or-append-add zeros (piece_bytes p) depth 0
          ∙ piece_found g p good.0 (at - from) (omega arith)
          ∙ sym (get_or-append (old_piece_bytes p) (flat_map old_piece_bytes ps) 0 (at - from) (omega (arith, old)))
      | inr past ↦
          let goes = later at from end (first end p) (placed_from next ps) past in
          let low_next : next ≤ offset_among at (from + old_size p) next (placed_from next ps) = behind at (from + old_size p) next ps in
          let off : ℕ = offset_among at (from + old_size p) next (placed_from next ps) in
          let index : offset_among at from end (placed_from end (p ∷ ps)) - end ≡ length (zeros ++ piece_bytes p) + (off - next) = omega (arith, goes, padding, front, size, low_next) in
          let old_index : at - from ≡ length (old_piece_bytes p) + (at - (from + old_size p)) = omega (arith, old, past) in
          ap (λ n. get_or ((zeros ++ piece_bytes p) ++ rest) n 0) index
          ∙ get_or-append-add (zeros ++ piece_bytes p) rest (off - next) 0
          ∙ found g at (from + old_size p) next ps good.1 past (omega arith)
          ∙ sym (get_or-append-add (old_piece_bytes p) (flat_map old_piece_bytes ps) (at - (from + old_size p)) 0)
          ∙ ap (λ n. get_or (old_piece_bytes p ++ flat_map old_piece_bytes ps) n 0) (sym old_index)
    ]

abbrev IsFound : Stretch → Type 0
IsFound s = (at : ℕ) → at < old_length s → slice_index (new_contents s) (new_offset s at) ≡ slice_index (old_contents s) at

stretch_found : (g : Program) (s : Stretch) → Every (IsGood g) s.pieces → IsFound s
stretch_found g s good at lt =
    let index : new_offset s at ≡ new_offset s at - 0 = omega arith in
    let old_index : at - 0 ≡ at = omega arith in
    ap (λ n. get_or (new_contents s) n 0) index ∙ found g at 0 0 s.pieces good (omega arith) (omega arith) ∙ ap (λ n. get_or (old_contents s) n 0) old_index

stretches_found : (g : Program) (ss : List Stretch) → Every (IsGood g) (flat_map (λ (s : Stretch). s.pieces) ss) → Every IsFound ss
stretches_found g [] h = tt
stretches_found g (s ∷ ss) h =
    (stretch_found g s (every_front (IsGood g) s.pieces (flat_map (λ (s : Stretch). s.pieces) ss) h), stretches_found g ss (every_back (IsGood g) s.pieces (flat_map (λ (s : Stretch). s.pieces) ss) h))

pub all_found : (g : Program) → well_made g → Every IsFound g.stretches
all_found g made = stretches_found g g.stretches (good_pieces g (pieces_of g) made.codes)
