-- The pieces of a rewritten interval, but for what operands and data name.
use Rattle.std.proofs.Common.{◌≡◌, ℕ, ◌+◌, ◌-◌, ◌*◌, ◌/◌, Bool, true, false, List, [], ◌∷◌, ◌++◌, length, map, replicate, Option, refl, sym, ap, ◌∙◌, subst, arith}
use Rattle.std.specs.Prelude.{◌==◌, if◌then◌else◌}
use Rattle.std.specs.List.{AllByRecursion as Every, flat_map}
use Rattle.std.proofs.lemmas.Bool.{both_ways, eqb-true}
use Rattle.std.proofs.lemmas.List.{append_assoc, append-nil, length-append, length-replicate}
use Rattle.block_parts.specs.declared.parts.Part.{Part}
use Rattle.block_parts.specs.declared.words.PatchedWord.{PatchedWord}
use Rattle.block_parts.specs.Parts.{cut_words, is_cut, parts_from, put_first}
use Rattle.block_parts.specs.Words.{patched_words}
use Rattle.gt_model.specs.declared.intervals.Block.{Block}
use Rattle.gt_model.specs.declared.intervals.Body.{Body}
use Rattle.gt_model.specs.declared.intervals.Body.TheVariants as bodies
use Rattle.gt_model.specs.declared.intervals.Interval.{Interval}
use Rattle.gt_model.specs.declared.modules.Module.{Module}
use Rattle.repaired_programs.specs.Pieces.{bare_piece, bare_word, gap_of, new_pieces, part_piece, piece_behind, plain_word}
use Rattle.rewrite.specs.Blocks.{part_block}
use Rattle.rewrite.specs.Contents.{bytes_from, piece_bytes}
use Rattle.sym_expr.specs.declared.patches.PatchTable.{PatchTable}
use Rattle.sym_expr.specs.declared.program.CodeBlock.{CodeBlock}
use Rattle.sym_expr.specs.declared.program.Piece.{Piece}
use Rattle.sym_expr.specs.declared.program.Piece.TheVariants.{Code as CodePiece, Data as DataPiece, Gap}
use Rattle.sym_expr.specs.declared.program.Word.{Word}
use Rattle.sym_expr.specs.Images.{all_words, bytes_of}
use Rattle.sym_expr.specs.Layouts.{least_from}
use Rattle.sym_expr.specs.Modules.{bytes_at, end_of, id_of, is_code, size_of}
use Rattle.sym_expr.specs.Patches.{no_patches}
use Rattle.sym_expr.specs.Placing.{Placed, end_from, new_size, placed_from}
use Rattle.sym_expr.specs.Program.{code_block, data_block, gap, own_words, piece, pieces}
use Rattle.sym_expr.specs.Tables.{Tables, alignment_entry}
use Rattle.repaired_programs.proofs.Becomes.{block_at, body_at, count, cut_count, IsFit}
use Rattle.repaired_programs.proofs.Bytes.{advance, ahead_on, bytes_in, bytes_read, IsAhead, IsSmall, length-word_bytes, word_bytes, words_read}
use Rattle.repaired_programs.proofs.Spots.{length-bytes_at, no_padding, place_of, spots}
use Rattle.repaired_programs.proofs.Walks.{gap_walk, last_gap, some_part}

-- ---- gaps of a module without patches

pub either_gap : (x : Bool) (bytes : List ℕ) (ps : List Piece) → map bare_piece ((if x then [] else Gap bytes ∷ []) ++ ps) ≡ (if x then [] else Gap bytes ∷ []) ++ map bare_piece ps
either_gap true bytes ps = refl
either_gap false bytes ps = refl

-- a gap that has these bytes
gap_bare : (j : Interval) (from to : ℕ) (bytes rest : List ℕ) (ps : List Piece) → from + length bytes ≡ to → IsAhead j from (bytes ++ rest) → map bare_piece (gap j from to ++ ps) ≡ gap_of bytes ++ map bare_piece ps
gap_bare j from to bytes rest ps e h =
    let size : to - from ≡ length bytes = omega (arith, e) in
    either_gap (to - from == 0) (bytes_at j from (to - from)) ps
    ∙ ap (λ k. (if k == 0 then [] else Gap (bytes_at j from k) ∷ []) ++ map bare_piece ps) size
    ∙ ap (λ l. (if length bytes == 0 then [] else Gap l ∷ []) ++ map bare_piece ps) (bytes_read j from bytes rest h)

-- ---- parts

abbrev part_of : ℕ → List PatchedWord → Part
part_of start words = record { start = start; words = words }

-- a code block that has these words, behind these bytes
pub code_bare : (n : Module) (u : Tables) (j : Interval) (at : ℕ) (b : Block) (words : List PatchedWord) (bytes rest : List ℕ) (bs : List Block) → is_code b ≡ true → size_of b ≡ 4 * length words → at + length bytes ≡ b.offset
    → IsAhead j at (bytes ++ (word_bytes words ++ rest)) → Every IsSmall words
    → map bare_piece (pieces n u no_patches j at (b ∷ bs)) ≡ gap_of bytes ++ CodePiece (record { id = id_of b; offset = b.offset; own = map plain_word words; inserted = [] }) ∷ map bare_piece (pieces n u no_patches j (end_of b) bs)
code_bare n u j at b words bytes rest bs code sizes e h small =
    let next : List Piece = pieces n u no_patches j (end_of b) bs in
    let here : IsAhead j b.offset (word_bytes words ++ rest) = ahead_on j (at + length bytes) b.offset (word_bytes words ++ rest) (word_bytes words ++ rest) e refl (advance j at bytes (word_bytes words ++ rest) h) in
    let size : size_of b / 4 ≡ length words = omega (arith, sizes) in
    let of_words = λ (ws : List Word). gap_of bytes ++ CodePiece (record { id = id_of b; offset = b.offset; own = ws; inserted = [] }) ∷ map bare_piece next in
    gap_bare j at b.offset bytes (word_bytes words ++ rest) (piece n u no_patches j b ∷ next) e h
    ∙ ap (λ x. gap_of bytes ++ bare_piece (if x then CodePiece (code_block n no_patches j b) else DataPiece (data_block n u no_patches j b)) ∷ map bare_piece next) code
    ∙ ap (λ k. of_words (map bare_word (own_words n no_patches j b.offset k))) size
    ∙ ap of_words (words_read n j b.offset words rest here small)

part_bare : (n : Module) (u : Tables) (j : Interval) (m : Module) (block : List ℕ) (decode_mode place at start : ℕ) (words : List PatchedWord) (bytes rest : List ℕ) (bs : List Block) → at + length bytes ≡ place + start
    → IsAhead j at (bytes ++ (word_bytes words ++ rest)) → Every IsSmall words
    → let b : Block = part_block m block decode_mode place (part_of start words) in map bare_piece (pieces n u no_patches j at (b ∷ bs)) ≡ gap_of bytes ++ part_piece m block place (part_of start words) ∷ map bare_piece (pieces n u no_patches j (end_of b) bs)
part_bare n u j m block decode_mode place at start words bytes rest bs e h small =
    code_bare n u j at (part_block m block decode_mode place (part_of start words)) words bytes rest bs refl refl e h small

parts_bare : (n : Module) (u : Tables) (j : Interval) (m : Module) (block : List ℕ) (decode_mode place at start : ℕ) (words : List PatchedWord) (ps : List (List PatchedWord)) (bytes rest : List ℕ) (bs : List Block) → at + length bytes ≡ place + start
    → IsAhead j at (bytes ++ (flat_map word_bytes (words ∷ ps) ++ rest)) → Every (Every IsSmall) (words ∷ ps)
    → let end : ℕ = place + (start + 4 * count (words ∷ ps)) in map bare_piece (pieces n u no_patches j at (map (part_block m block decode_mode place) (parts_from start (words ∷ ps)) ++ bs))
    ≡ gap_of bytes ++ (map (part_piece m block place) (parts_from start (words ∷ ps)) ++ map bare_piece (pieces n u no_patches j end bs))
parts_bare n u j m block decode_mode place at start words [] bytes rest bs e h small =
    let same : place + start + 4 * length words ≡ place + (start + 4 * count (words ∷ [])) = omega arith in
    let one : flat_map word_bytes (words ∷ []) ++ rest ≡ word_bytes words ++ rest = ap (λ l. l ++ rest) (append-nil (word_bytes words)) in
    part_bare n u j m block decode_mode place at start words bytes rest bs e (ahead_on j at at (bytes ++ (flat_map word_bytes (words ∷ []) ++ rest)) (bytes ++ (word_bytes words ++ rest)) refl (ap (λ l. bytes ++ l) one) h) small.0
    ∙ ap (λ x. gap_of bytes ++ part_piece m block place (part_of start words) ∷ map bare_piece (pieces n u no_patches j x bs)) same
parts_bare n u j m block decode_mode place at start words (next ∷ ps) bytes rest bs e h small =
    let b : Block = part_block m block decode_mode place (part_of start words) in
    let more : List ℕ = flat_map word_bytes (next ∷ ps) ++ rest in
    let split : flat_map word_bytes (words ∷ next ∷ ps) ++ rest ≡ word_bytes words ++ more = append_assoc (word_bytes words) (flat_map word_bytes (next ∷ ps)) rest in
    let here : IsAhead j at (bytes ++ (word_bytes words ++ more)) = ahead_on j at at (bytes ++ (flat_map word_bytes (words ∷ next ∷ ps) ++ rest)) (bytes ++ (word_bytes words ++ more)) refl (ap (λ l. bytes ++ l) split) h in
    let size = length-word_bytes words in
    let behind : IsAhead j (end_of b) more =
    ahead_on j (at + length bytes + length (word_bytes words)) (end_of b) more more (omega (arith, e, size)) refl (advance j (at + length bytes) (word_bytes words) more (advance j at bytes (word_bytes words ++ more) here)) in
    let same : place + (start + 4 * length words + 4 * count (next ∷ ps)) ≡ place + (start + 4 * count (words ∷ next ∷ ps)) = omega arith in
    let first : Piece = part_piece m block place (part_of start words) in
    let others : List Piece = map (part_piece m block place) (parts_from (start + 4 * length words) (next ∷ ps)) in
    part_bare n u j m block decode_mode place at start words bytes more (map (part_block m block decode_mode place) (parts_from (start + 4 * length words) (next ∷ ps)) ++ bs) e here small.0
    ∙ ap (λ l. gap_of bytes ++ first ∷ l) (parts_bare n u j m block decode_mode place (end_of b) (start + 4 * length words) next ps [] rest bs (omega arith) behind small.1)
    ∙ ap (λ x. gap_of bytes ++ first ∷ (others ++ map bare_piece (pieces n u no_patches j x bs))) same

abbrev IsPartedBare : Module → Tables → Interval → Module → List ℕ → ℕ → ℕ → ℕ → List ℕ → List Block → List (List PatchedWord) → Type 0
IsPartedBare n u j m block decode_mode place at bytes bs ps =
    let end : ℕ = place + (0 + 4 * count ps) in
    map bare_piece (pieces n u no_patches j at (map (part_block m block decode_mode place) (parts_from 0 ps) ++ bs)) ≡ gap_of bytes ++ (map (part_piece m block place) (parts_from 0 ps) ++ map bare_piece (pieces n u no_patches j end bs))

all_parts : (n : Module) (u : Tables) (j : Interval) (m : Module) (block : List ℕ) (decode_mode place at : ℕ) (ps : List (List PatchedWord)) (bytes rest : List ℕ) (bs : List Block) (first : List PatchedWord) (others : List (List PatchedWord)) → ps ≡ first ∷ others → at + length bytes ≡ place
    → IsAhead j at (bytes ++ (flat_map word_bytes ps ++ rest)) → Every (Every IsSmall) ps → IsPartedBare n u j m block decode_mode place at bytes bs ps
all_parts n u j m block decode_mode place at ps bytes rest bs first others some e =
    let P : List (List PatchedWord) → Type 0 = λ qs. IsAhead j at (bytes ++ (flat_map word_bytes qs ++ rest)) → Every (Every IsSmall) qs → IsPartedBare n u j m block decode_mode place at bytes bs qs in
    subst P (sym some) (parts_bare n u j m block decode_mode place at 0 first others bytes rest bs (omega (arith, e)))

-- ---- the old pieces

-- a gap is added to what stands behind the last block
pub gap_new : (m : Module) (i : Interval) (from to end : ℕ) (bytes : List ℕ) (x : Bool) (ps : List Piece) → (to - from == 0) ≡ x
    → new_pieces m bytes end (placed_from end ((if x then [] else Gap (bytes_at i from (to - from)) ∷ []) ++ ps)) ≡ new_pieces m (bytes ++ bytes_at i from (to - from)) (end + (to - from)) (placed_from (end + (to - from)) ps)
gap_new m i from to end bytes true ps e =
    let none = eqb-true (to - from) 0 e in
    let same : end ≡ end + (to - from) = omega (arith, none) in
    ap (λ l. new_pieces m l end (placed_from end ps)) (sym (append-nil bytes))
    ∙ ap (λ k. new_pieces m (bytes ++ bytes_at i from k) end (placed_from end ps)) (sym none)
    ∙ ap (λ k. new_pieces m (bytes ++ bytes_at i from (to - from)) k (placed_from k ps)) same
gap_new m i from to end bytes false ps e =
    let size = length-bytes_at i from (to - from) in
    let still = no_padding end 1 (omega arith) in
    let same : least_from end 1 0 + length (bytes_at i from (to - from)) ≡ end + (to - from) = omega (arith, size, still) in
    ap (λ k. new_pieces m (bytes ++ bytes_at i from (to - from)) k (placed_from k ps)) same

-- its bytes come first
gap_bytes : (i : Interval) (from to end : ℕ) (x : Bool) (ps : List Piece) → (to - from == 0) ≡ x
    → bytes_from end (placed_from end ((if x then [] else Gap (bytes_at i from (to - from)) ∷ []) ++ ps)) ≡ bytes_at i from (to - from) ++ bytes_from (end + (to - from)) (placed_from (end + (to - from)) ps)
gap_bytes i from to end true ps e =
    let none = eqb-true (to - from) 0 e in
    let same : end ≡ end + (to - from) = omega (arith, none) in
    ap (λ k. bytes_from k (placed_from k ps)) same
    ∙ ap (λ k. bytes_at i from k ++ bytes_from (end + (to - from)) (placed_from (end + (to - from)) ps)) (sym none)
gap_bytes i from to end false ps e =
    let size = length-bytes_at i from (to - from) in
    let still = no_padding end 1 (omega arith) in
    let none : least_from end 1 0 - end ≡ 0 = omega (arith, still) in
    let same : least_from end 1 0 + length (bytes_at i from (to - from)) ≡ end + (to - from) = omega (arith, size, still) in
    ap (λ k. replicate k 0 ++ bytes_at i from (to - from) ++ bytes_from (least_from end 1 0 + length (bytes_at i from (to - from))) (placed_from (least_from end 1 0 + length (bytes_at i from (to - from))) ps)) none
    ∙ ap (λ k. bytes_at i from (to - from) ++ bytes_from k (placed_from k ps)) same

-- ---- the parts of a block have its bytes

put_bytes : (w : PatchedWord) (ps : List (List PatchedWord)) → flat_map word_bytes (put_first w ps) ≡ bytes_in w ++ flat_map word_bytes ps
put_bytes w [] = ap (λ l. l ++ []) (append-nil (bytes_in w))
put_bytes w (q ∷ ps) = append_assoc (bytes_in w) (word_bytes q) (flat_map word_bytes ps)

either_bytes : (w : PatchedWord) (x : Bool) (ps : List (List PatchedWord)) → flat_map word_bytes (if x then (w ∷ []) ∷ ps else put_first w ps) ≡ bytes_in w ++ flat_map word_bytes ps
either_bytes w true ps = ap (λ l. l ++ flat_map word_bytes ps) (append-nil (bytes_in w))
either_bytes w false ps = put_bytes w ps

cut_bytes : (ws : List PatchedWord) → flat_map word_bytes (cut_words ws) ≡ word_bytes ws
cut_bytes [] = refl
cut_bytes (w ∷ []) = append-nil (word_bytes (w ∷ []))
cut_bytes (w ∷ next ∷ rest) = either_bytes w (is_cut w next) (cut_words (next ∷ rest)) ∙ ap (λ l. bytes_in w ++ l) (cut_bytes (next ∷ rest))

put_small : (w : PatchedWord) (ps : List (List PatchedWord)) → IsSmall w → Every (Every IsSmall) ps → Every (Every IsSmall) (put_first w ps)
put_small w [] h k = ((h, tt), tt)
put_small w (q ∷ ps) h k = ((h, k.0), k.1)

either_small : (w : PatchedWord) (x : Bool) (ps : List (List PatchedWord)) → IsSmall w → Every (Every IsSmall) ps → Every (Every IsSmall) (if x then (w ∷ []) ∷ ps else put_first w ps)
either_small w true ps h k = ((h, tt), k)
either_small w false ps h k = put_small w ps h k

cut_small : (ws : List PatchedWord) → Every IsSmall ws → Every (Every IsSmall) (cut_words ws)
cut_small [] h = (tt, tt)
cut_small (w ∷ []) h = (h, tt)
cut_small (w ∷ next ∷ rest) h = either_small w (is_cut w next) (cut_words (next ∷ rest)) h.0 (cut_small (next ∷ rest) h.1)

abbrev pub AreNamed : CodeBlock → Type 0
AreNamed b = map (λ (w : PatchedWord). w.word) (patched_words b) ≡ map (λ (w : Word). w.word) (all_words b)

pub flat_of_map : {X Y Z : Type 0} (f : X → Y) (g : Y → List Z) (xs : List X) → flat_map g (map f xs) ≡ flat_map (λ x. g (f x)) xs
flat_of_map f g [] = refl
flat_of_map f g (x ∷ xs) = ap (λ l. g (f x) ++ l) (flat_of_map f g xs)

block_bytes : (b : CodeBlock) → AreNamed b → piece_bytes (CodePiece b) ≡ flat_map word_bytes (cut_words (patched_words b))
block_bytes b named =
    sym (flat_of_map (λ (w : Word). w.word) (bytes_of 4) (all_words b))
    ∙ ap (flat_map (bytes_of 4)) (sym named)
    ∙ flat_of_map (λ (w : PatchedWord). w.word) (bytes_of 4) (patched_words b)
    ∙ sym (cut_bytes (patched_words b))

-- ---- blocks at their new places

abbrev pub AreSmall : Module → PatchTable → Interval → Block → Type 0
AreSmall m p i b = Every IsSmall (patched_words (code_block m p i b))

module _ (named : (b : CodeBlock) → AreNamed b) (m : Module) (t : Tables) (p : PatchTable) (i : Interval) (n : Module) (u : Tables) (j : Interval) (same : (id : List ℕ) → alignment_entry u id ≡ alignment_entry t id) where
  abbrev place_at : ℕ → ℕ → Block → ℕ
  place_at end at b = place_of (end + (b.offset - at)) (piece m t p i b)

  abbrev end_at : ℕ → ℕ → Block → ℕ
  end_at end at b = place_at end at b + new_size (piece m t p i b)

  -- the pieces behind a block
  abbrev placed_behind : ℕ → ℕ → Block → List Block → List Placed
  placed_behind end at b bs = placed_from (end_at end at b) (pieces m t p i (end_of b) bs)

  -- the bytes up to a block, and those from it on
  abbrev bytes_up_to : ℕ → ℕ → Block → List ℕ
  bytes_up_to end at b = bytes_at i at (b.offset - at) ++ replicate (place_at end at b - (end + (b.offset - at))) 0

  abbrev bytes_behind : ℕ → ℕ → Block → List Block → List ℕ
  bytes_behind end at b bs = bytes_from (end_at end at b) (placed_behind end at b bs)

  up_to_place : (end at : ℕ) (b : Block) → end + length (bytes_up_to end at b) ≡ place_at end at b
  up_to_place end at b =
      let zeros : List ℕ = replicate (place_at end at b - (end + (b.offset - at))) 0 in
      let all = length-append (bytes_at i at (b.offset - at)) zeros in
      let first = length-bytes_at i at (b.offset - at) in
      let padding : length zeros ≡ place_at end at b - (end + (b.offset - at)) = length-replicate (place_at end at b - (end + (b.offset - at))) 0 in
      omega (arith, all, first, padding)

  abbrev bytes_all : ℕ → ℕ → Block → List Block → List ℕ
  bytes_all end at b bs = bytes_at i at (b.offset - at) ++ (replicate (place_at end at b - (end + (b.offset - at))) 0 ++ piece_bytes (piece m t p i b) ++ bytes_behind end at b bs)

  regrouped : (g zeros own rest : List ℕ) → g ++ (zeros ++ own ++ rest) ≡ (g ++ zeros) ++ (own ++ rest)
  regrouped g zeros own rest = ap (λ l. g ++ l) (append_assoc zeros own rest) ∙ sym (append_assoc g zeros (own ++ rest))

  ahead_of : (end at : ℕ) (b : Block) (bs : List Block) → IsAhead j end (bytes_all end at b bs) → IsAhead j end (bytes_up_to end at b ++ (piece_bytes (piece m t p i b) ++ bytes_behind end at b bs))
  ahead_of end at b bs h =
      ahead_on j end end (bytes_all end at b bs) (bytes_up_to end at b ++ (piece_bytes (piece m t p i b) ++ bytes_behind end at b bs)) refl
      (regrouped (bytes_at i at (b.offset - at)) (replicate (place_at end at b - (end + (b.offset - at))) 0) (piece_bytes (piece m t p i b)) (bytes_behind end at b bs)) h

  abbrev IsBare : ℕ → ℕ → Block → List Block → List Block → List Block → Type 0
  IsBare end at b made news bs =
      map bare_piece (pieces n u no_patches j end (made ++ news))
      ≡ piece_behind m (bytes_at i at (b.offset - at)) (end + (b.offset - at)) (place_at end at b) (piece m t p i b) (λ bytes. new_pieces m bytes (end_at end at b) (placed_behind end at b bs))

  body_bare : (end at offset : ℕ) (body : Body) (news bs : List Block)
      → let b : Block = record { offset = offset; body = body } in IsFit m p i b → AreSmall m p i b → IsAhead j end (bytes_all end at b bs)
      → map bare_piece (pieces n u no_patches j (end_at end at b) news) ≡ new_pieces m [] (end_at end at b) (placed_behind end at b bs)
      → IsBare end at b (body_at m p i (place_at end at b) b body) news bs
  body_bare end at offset bodies.Bare news bs fit small h rest = absurd (both_ways true fit.bodied refl)
  body_bare end at offset (bodies.Code uuid size decode_mode) news bs fit small h rest =
      let b : Block = record { offset = offset; body = bodies.Code uuid size decode_mode } in
      let c : CodeBlock = code_block m p i b in
      let words : List PatchedWord = patched_words c in
      let place : ℕ = place_at end at b in
      let bytes : List ℕ = bytes_up_to end at b in
      let counted = fit.counted refl in
      let all = cut_count words in
      let next : place + (0 + 4 * count (cut_words words)) ≡ end_at end at b = omega (arith, counted, all) in
      let some = some_part words in
      let made : List Piece = map (part_piece m uuid place) (parts_from 0 (cut_words words)) in
      let here : IsAhead j end (bytes ++ (flat_map word_bytes (cut_words words) ++ bytes_behind end at b bs)) =
      ahead_on j end end (bytes ++ (piece_bytes (CodePiece c) ++ bytes_behind end at b bs)) (bytes ++ (flat_map word_bytes (cut_words words) ++ bytes_behind end at b bs)) refl
      (ap (λ l. bytes ++ (l ++ bytes_behind end at b bs)) (block_bytes c (named c))) (ahead_of end at b bs h) in
      all_parts n u j m uuid decode_mode place end (cut_words words) bytes (bytes_behind end at b bs) news some.0 some.1 some.2 (up_to_place end at b) here (cut_small words small)
      ∙ ap (λ x. gap_of bytes ++ (made ++ map bare_piece (pieces n u no_patches j x news))) next
      ∙ ap (λ l. gap_of bytes ++ (made ++ l)) rest
  body_bare end at offset (bodies.Data uuid size) news bs fit small h rest =
      let b : Block = record { offset = offset; body = bodies.Data uuid size } in
      let place : ℕ = place_at end at b in
      let bytes : List ℕ = bytes_up_to end at b in
      let own : List ℕ = bytes_at i offset size in
      let d : Block = record { offset = place; body = bodies.Data uuid size } in
      let count : length own ≡ size = length-bytes_at i offset size in
      let here : IsAhead j end (bytes ++ (own ++ bytes_behind end at b bs)) = ahead_of end at b bs h in
      let there : IsAhead j place (own ++ bytes_behind end at b bs) =
      ahead_on j (end + length bytes) place (own ++ bytes_behind end at b bs) (own ++ bytes_behind end at b bs) (up_to_place end at b) refl (advance j end bytes (own ++ bytes_behind end at b bs) here) in
      let read : bytes_at j place size ≡ own = ap (λ k. bytes_at j place k) (sym count) ∙ bytes_read j place own (bytes_behind end at b bs) there in
      let next : place + size ≡ end_at end at b = omega (arith, count) in
      let data_of = λ (bytes : List ℕ) (o : Option ℕ). DataPiece (record { id = uuid; offset = place; bytes = bytes; fillings = []; alignment = o }) in
      gap_bare j end place bytes (own ++ bytes_behind end at b bs) (piece n u no_patches j d ∷ pieces n u no_patches j (end_of d) news) (up_to_place end at b) here
      ∙ ap (λ l. gap_of bytes ++ data_of l (alignment_entry u uuid) ∷ map bare_piece (pieces n u no_patches j (place + size) news)) read
      ∙ ap (λ o. gap_of bytes ++ data_of own o ∷ map bare_piece (pieces n u no_patches j (place + size) news)) (same uuid)
      ∙ ap (λ x. gap_of bytes ++ data_of own (alignment_entry t uuid) ∷ map bare_piece (pieces n u no_patches j x news)) next
      ∙ ap (λ l. gap_of bytes ++ data_of own (alignment_entry t uuid) ∷ l) rest

  last_bare : (end at : ℕ) → j.size ≡ end_from end (gap i at i.size) → IsAhead j end (bytes_from end (placed_from end (gap i at i.size))) → map bare_piece (gap j end j.size) ≡ new_pieces m [] end (placed_from end (gap i at i.size))
  last_bare end at e h =
      let g : List ℕ = bytes_at i at (i.size - at) in
      let none : gap i at i.size ++ [] ≡ gap i at i.size = append-nil (gap i at i.size) in
      let size = length-bytes_at i at (i.size - at) in
      let old_end : end_from end (gap i at i.size) ≡ end + (i.size - at) = ap (λ (w : ℕ × ℕ). w.0) (last_gap i at i.size end (i.size - at == 0) refl) in
      let all : bytes_from end (placed_from end (gap i at i.size)) ≡ g ++ [] =
      ap (λ ps. bytes_from end (placed_from end ps)) (sym none) ∙ gap_bytes i at i.size end (i.size - at == 0) [] refl in
      let here : IsAhead j end (g ++ []) = ahead_on j end end (bytes_from end (placed_from end (gap i at i.size))) (g ++ []) refl all h in
      ap (map bare_piece) (sym (append-nil (gap j end j.size)))
      ∙ gap_bare j end j.size g [] [] (omega (arith, e, size, old_end)) here
      ∙ append-nil (gap_of g)
      ∙ sym (ap (λ ps. new_pieces m [] end (placed_from end ps)) (sym none) ∙ gap_new m i at i.size end [] (i.size - at == 0) [] refl)

  pub spots_bare : (end at : ℕ) (bs : List Block) → Every (IsFit m p i) bs → Every (AreSmall m p i) bs → j.size ≡ end_from end (pieces m t p i at bs) → IsAhead j end (bytes_from end (placed_from end (pieces m t p i at bs)))
      → map bare_piece (pieces n u no_patches j end (flat_map (block_at m p i) (spots (piece m t p i) end at bs))) ≡ new_pieces m [] end (placed_from end (pieces m t p i at bs))
  spots_bare end at [] fit small e h = last_bare end at e h
  spots_bare end at (b ∷ bs) fit small e h =
      let tail : List Piece = piece m t p i b ∷ pieces m t p i (end_of b) bs in
      let news : List Block = flat_map (block_at m p i) (spots (piece m t p i) (end_at end at b) (end_of b) bs) in
      let last : end_from end (pieces m t p i at (b ∷ bs)) ≡ end_from (end + (b.offset - at)) tail = ap (λ (w : ℕ × ℕ). w.0) (gap_walk i at b.offset end (b.offset - at == 0) tail refl) in
      let here : IsAhead j end (bytes_all end at b bs) =
      ahead_on j end end (bytes_from end (placed_from end (pieces m t p i at (b ∷ bs)))) (bytes_all end at b bs) refl (gap_bytes i at b.offset end (b.offset - at == 0) tail refl) h in
      let split = ahead_of end at b bs here in
      let own : List ℕ = piece_bytes (piece m t p i b) in
      let size : length own ≡ new_size (piece m t p i b) = own_size b fit.0 in
      let behind : IsAhead j (end_at end at b) (bytes_behind end at b bs) =
      ahead_on j (end + length (bytes_up_to end at b) + length own) (end_at end at b) (bytes_behind end at b bs) (bytes_behind end at b bs) (omega (arith, size, up_to_place end at b)) refl
      (advance j (end + length (bytes_up_to end at b)) own (bytes_behind end at b bs) (advance j end (bytes_up_to end at b) (own ++ bytes_behind end at b bs) split)) in
      body_bare end at b.offset b.body news bs fit.0 small.0 here (spots_bare (end_at end at b) (end_of b) bs fit.1 small.1 (e ∙ last) behind)
      ∙ sym (gap_new m i at b.offset end [] (b.offset - at == 0) tail refl)
    where
      code_size_of : (c : CodeBlock) → length (patched_words c) ≡ length c.own + length c.inserted → length (piece_bytes (CodePiece c)) ≡ new_size (CodePiece c)
      code_size_of c counted =
          ap length (block_bytes c (named c) ∙ cut_bytes (patched_words c)) ∙ length-word_bytes (patched_words c) ∙ ap (λ k. 4 * k) counted

      body_size : (offset : ℕ) (body : Body) → let b : Block = record { offset = offset; body = body } in IsFit m p i b → length (piece_bytes (piece m t p i b)) ≡ new_size (piece m t p i b)
      body_size offset bodies.Bare fit = absurd (both_ways true fit.bodied refl)
      body_size offset (bodies.Code uuid size decode_mode) fit = code_size_of (code_block m p i (record { offset = offset; body = bodies.Code uuid size decode_mode })) (fit.counted refl)
      body_size offset (bodies.Data uuid size) fit = refl

      own_size : (b : Block) → IsFit m p i b → length (piece_bytes (piece m t p i b)) ≡ new_size (piece m t p i b)
      own_size b fit = body_size b.offset b.body fit
