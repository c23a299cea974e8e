-- The words of pieces once more are those of the pieces.
use Rattle.std.proofs.Common.{◌≡◌, ℕ, ◌+◌, ◌-◌, ◌*◌, Bool, true, false, List, [], ◌∷◌, ◌++◌, length, map, replicate, refl, sym, ap, ◌∙◌}
use Rattle.std.specs.Prelude.{◌==◌, filter, if◌then◌else◌}
use Rattle.std.specs.List.{AllZip, flat_map}
use Rattle.std.proofs.lemmas.List.{append-nil, append_assoc, map-append}
use Rattle.block_parts.specs.declared.parts.Part.{Part}
use Rattle.block_parts.specs.declared.words.PatchedWord.{PatchedWord}
use Rattle.block_parts.specs.Parts.{cut_words, is_cut, parts, parts_from, put_first}
use Rattle.block_parts.specs.Words.{patched_words}
use Rattle.gt_model.specs.declared.modules.Module.{Module}
use Rattle.repaired_programs.specs.Named.{IsOneWord, NameOne, piece_words}
use Rattle.repaired_programs.specs.Pieces.{bare_piece, bare_word, gap_of, new_pieces, part_piece, plain_word}
use Rattle.rewrite.specs.Identifiers.{part_id}
use Rattle.sym_expr.specs.declared.layout.Layout.{Layout}
use Rattle.sym_expr.specs.declared.program.CodeBlock.{CodeBlock}
use Rattle.sym_expr.specs.declared.program.DataBlock.{DataBlock}
use Rattle.sym_expr.specs.declared.program.Piece.{Piece}
use Rattle.sym_expr.specs.declared.program.Piece.TheVariants.{Code as CodePiece, Data as DataPiece, Gap}
use Rattle.sym_expr.specs.declared.program.Program.{Program}
use Rattle.sym_expr.specs.declared.program.Word.{Word}
use Rattle.sym_expr.specs.Images.{all_words, words_from}
use Rattle.sym_expr.specs.Layouts.{least_from}
use Rattle.sym_expr.specs.Patches.{inserted_at}
use Rattle.sym_expr.specs.Placing.{placed_from}
use Rattle.sym_expr.specs.Points.{data_size, ins, object_alignment}
use Rattle.repaired_programs.proofs.Bare.{AreNamed}
use Rattle.repaired_programs.proofs.Readings.{gap_words, quiet_from}

abbrev bits : Word → ℕ
bits w = w.word

abbrev bits_of : List Word → List ℕ
bits_of ws = map bits ws

-- ---- what isn't named has the same words

inserted_bits : (k : ℕ) (ws : List (ℕ × Word)) → bits_of (inserted_at k (map (λ (w : ℕ × Word). let v : ℕ × Word = (w.0, bare_word w.1) in v) ws)) ≡ bits_of (inserted_at k ws)
inserted_bits k [] = refl
inserted_bits k (w ∷ ws) = either (k == w.0) (inserted_bits k ws)
  where
    either : (x : Bool) → bits_of (inserted_at k (map (λ (w : ℕ × Word). let v : ℕ × Word = (w.0, bare_word w.1) in v) ws)) ≡ bits_of (inserted_at k ws)
        → bits_of (map (λ (v : ℕ × Word). v.1) (if x then (w.0, bare_word w.1) ∷ filter (λ (v : ℕ × Word). k == v.0) (map (λ (w : ℕ × Word). let v : ℕ × Word = (w.0, bare_word w.1) in v) ws) else filter (λ (v : ℕ × Word). k == v.0) (map (λ (w : ℕ × Word). let v : ℕ × Word = (w.0, bare_word w.1) in v) ws)))
        ≡ bits_of (map (λ (v : ℕ × Word). v.1) (if x then w ∷ filter (λ (v : ℕ × Word). k == v.0) ws else filter (λ (v : ℕ × Word). k == v.0) ws))
    either true e = ap (λ l. w.1.word ∷ l) e
    either false e = e

abbrev bare_block : CodeBlock → CodeBlock
bare_block b = record b { own = map bare_word b.own; inserted = map (λ (w : ℕ × Word). let v : ℕ × Word = (w.0, bare_word w.1) in v) b.inserted }

from_bits : (b : CodeBlock) (offset : ℕ) (ws : List Word) → bits_of (words_from (bare_block b) offset (map bare_word ws)) ≡ bits_of (words_from b offset ws)
from_bits b offset [] = inserted_bits offset b.inserted
from_bits b offset (w ∷ ws) =
    let news : List Word = ins (bare_block b) offset in
    map-append bits news (bare_word w ∷ words_from (bare_block b) (offset + 4) (map bare_word ws))
    ∙ ap (λ l. l ++ (w.word ∷ bits_of (words_from (bare_block b) (offset + 4) (map bare_word ws)))) (inserted_bits offset b.inserted)
    ∙ ap (λ l. bits_of (ins b offset) ++ (w.word ∷ l)) (from_bits b (offset + 4) ws)
    ∙ sym (map-append bits (ins b offset) (w ∷ words_from b (offset + 4) ws))

piece_bits : (p : Piece) → bits_of (piece_words (bare_piece p)) ≡ bits_of (piece_words p)
piece_bits (CodePiece b) = from_bits b 0 b.own
piece_bits (DataPiece b) = refl
piece_bits (Gap bytes) = refl

bare_bits : (ps : List Piece) → bits_of (flat_map piece_words (map bare_piece ps)) ≡ bits_of (flat_map piece_words ps)
bare_bits [] = refl
bare_bits (p ∷ ps) =
    map-append bits (piece_words (bare_piece p)) (flat_map piece_words (map bare_piece ps))
    ∙ ap (λ l. l ++ bits_of (flat_map piece_words (map bare_piece ps))) (piece_bits p)
    ∙ ap (λ l. bits_of (piece_words p) ++ l) (bare_bits ps)
    ∙ sym (map-append bits (piece_words p) (flat_map piece_words ps))

-- ---- the words of parts

abbrev flat : List (List PatchedWord) → List PatchedWord
flat pss = flat_map (λ (ws : List PatchedWord). ws) pss

put_flat : (w : PatchedWord) (ps : List (List PatchedWord)) → flat (put_first w ps) ≡ w ∷ flat ps
put_flat w [] = refl
put_flat w (q ∷ ps) = refl

either_flat : (w : PatchedWord) (x : Bool) (ps : List (List PatchedWord)) → flat (if x then (w ∷ []) ∷ ps else put_first w ps) ≡ w ∷ flat ps
either_flat w true ps = refl
either_flat w false ps = put_flat w ps

cut_flat : (ws : List PatchedWord) → flat (cut_words ws) ≡ ws
cut_flat [] = refl
cut_flat (w ∷ []) = refl
cut_flat (w ∷ next ∷ rest) = either_flat w (is_cut w next) (cut_words (next ∷ rest)) ∙ ap (λ l. w ∷ l) (cut_flat (next ∷ rest))

abbrev patched_bits : PatchedWord → ℕ
patched_bits w = w.word

plain_bits : (ws : List PatchedWord) → bits_of (map plain_word ws) ≡ map patched_bits ws
plain_bits [] = refl
plain_bits (w ∷ ws) = ap (λ l. w.word ∷ l) (plain_bits ws)

parts_bits : (m : Module) (block : List ℕ) (place start : ℕ) (pss : List (List PatchedWord)) (ps : List Piece)
    → bits_of (flat_map piece_words (map (part_piece m block place) (parts_from start pss) ++ ps)) ≡ map patched_bits (flat pss) ++ bits_of (flat_map piece_words ps)
parts_bits m block place start [] ps = refl
parts_bits m block place start (words ∷ pss) ps =
    let q : Part = record { start = start; words = words } in
    let its : Piece = part_piece m block place q in
    let rest : List Piece = map (part_piece m block place) (parts_from (start + 4 * length words) pss) ++ ps in
    map-append bits (piece_words its) (flat_map piece_words rest)
    ∙ ap (λ l. bits_of l ++ bits_of (flat_map piece_words rest)) (quiet_part q)
    ∙ ap (λ l. l ++ bits_of (flat_map piece_words rest)) (plain_bits words)
    ∙ ap (λ l. map patched_bits words ++ l) (parts_bits m block place (start + 4 * length words) pss ps)
    ∙ sym (append_assoc (map patched_bits words) (map patched_bits (flat pss)) (bits_of (flat_map piece_words ps)))
    ∙ ap (λ l. l ++ bits_of (flat_map piece_words ps)) (sym (map-append patched_bits words (flat pss)))
  where
    quiet_part : (q : Part) → piece_words (part_piece m block place q) ≡ map plain_word q.words
    quiet_part q = quiet_from (record { id = part_id m block q; offset = place + q.start; own = map plain_word q.words; inserted = [] }) 0 (map plain_word q.words) refl

-- ---- the words of pieces once more

again_bits : ((b : CodeBlock) → AreNamed b) → (m : Module) (gap : List ℕ) (end : ℕ) (qs : List Piece) → bits_of (flat_map piece_words (new_pieces m gap end (placed_from end qs))) ≡ bits_of (flat_map piece_words qs)
again_bits named m gap end [] = ap (λ (ps : List Piece). bits_of (flat_map piece_words ps)) (sym (append-nil (gap_of gap))) ∙ ap bits_of (gap_words gap (length gap == 0) [])
again_bits named m gap end (CodePiece b ∷ qs) =
    let place : ℕ = least_from end 1 0 in
    let next : ℕ = place + 4 * (length b.own + length b.inserted) in
    let bytes : List ℕ = gap ++ replicate (place - end) 0 in
    let rest : List Piece = new_pieces m [] next (placed_from next qs) in
    ap bits_of (gap_words bytes (length bytes == 0) (map (part_piece m b.id place) (parts b) ++ rest))
    ∙ parts_bits m b.id place 0 (cut_words (patched_words b)) rest
    ∙ ap (λ l. map patched_bits l ++ bits_of (flat_map piece_words rest)) (cut_flat (patched_words b))
    ∙ ap (λ l. l ++ bits_of (flat_map piece_words rest)) (named b)
    ∙ ap (λ l. bits_of (all_words b) ++ l) (again_bits named m [] next qs)
    ∙ sym (map-append bits (all_words b) (flat_map piece_words qs))
again_bits named m gap end (DataPiece b ∷ qs) =
    let place : ℕ = least_from end (object_alignment b) 0 in
    let next : ℕ = place + data_size b in
    let bytes : List ℕ = gap ++ replicate (place - end) 0 in
    let d : DataBlock = record b { offset = place; fillings = [] } in
    ap bits_of (gap_words bytes (length bytes == 0) (DataPiece d ∷ new_pieces m [] next (placed_from next qs)))
    ∙ again_bits named m [] next qs
again_bits named m gap end (Gap bytes ∷ qs) =
    let next : ℕ = least_from end 1 0 + length bytes in
    again_bits named m (gap ++ bytes) next qs

-- words that are the same, and name one thing each
zip_words : (l : Layout) (new g : Program) (vs ws : List Word) → bits_of vs ≡ bits_of ws → AllZip (λ (v w : Word). NameOne l new g v.target w.target) vs ws → AllZip (IsOneWord l new g) vs ws
zip_words l new g [] [] e h = tt
zip_words l new g [] (w ∷ ws) e h = absurd h
zip_words l new g (v ∷ vs) [] e h = absurd h
zip_words l new g (v ∷ vs) (w ∷ ws) e h = (record { word = first v.word w.word (bits_of vs) (bits_of ws) e; target = h.0 }, zip_words l new g vs ws (more v.word w.word (bits_of vs) (bits_of ws) e) h.1)
  where
    first : (x y : ℕ) (xs ys : List ℕ) → x ∷ xs ≡ y ∷ ys → x ≡ y
    first x y xs ys e = cc

    more : (x y : ℕ) (xs ys : List ℕ) → x ∷ xs ≡ y ∷ ys → xs ≡ ys
    more x y xs ys e = cc

pub words_one : ((b : CodeBlock) → AreNamed b) → (m : Module) (l : Layout) (new g : Program) (ps qs : List Piece) → map bare_piece ps ≡ new_pieces m [] 0 (placed_from 0 qs)
    → AllZip (λ (v w : Word). NameOne l new g v.target w.target) (flat_map piece_words ps) (flat_map piece_words qs) → AllZip (IsOneWord l new g) (flat_map piece_words ps) (flat_map piece_words qs)
words_one named m l new g ps qs e h =
    zip_words l new g (flat_map piece_words ps) (flat_map piece_words qs)
    (sym (bare_bits ps) ∙ ap (λ xs. bits_of (flat_map piece_words xs)) e ∙ again_bits named m [] 0 qs) h
