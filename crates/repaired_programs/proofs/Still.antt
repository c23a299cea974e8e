-- The pieces of blocks in which nothing is inserted stay as they are: of intervals without words, and of functions.
use Rattle.std.proofs.Common.{◌≡◌, ℕ, zero, suc, ◌+◌, ◌-◌, ◌*◌, ◌/◌, ◌≤◌, Bool, true, false, List, [], ◌∷◌, ◌++◌, length, map, replicate, None, refl, sym, ap, ◌∙◌, arith}
use Rattle.std.specs.Prelude.{◌==◌, if◌then◌else◌}
use Rattle.std.specs.List.{AllByRecursion as Every}
use Rattle.std.proofs.lemmas.Bool.{eqb-true, not-false}
use Rattle.std.proofs.lemmas.List.{append-nil}
use Rattle.block_parts.specs.Parts.{part, parts}
use Rattle.block_parts.specs.Words.{numbered, patched_words, words_from}
use Rattle.gt_model.specs.declared.intervals.Block.{Block}
use Rattle.gt_model.specs.declared.intervals.Interval.{Interval}
use Rattle.gt_model.specs.declared.modules.Module.{Module}
use Rattle.repaired_programs.specs.Pieces.{bare_piece, bare_word, gap_of, new_pieces, part_piece, plain_word}
use Rattle.rewrite.specs.Rewritten.{has_words}
use Rattle.sym_expr.specs.declared.patches.PatchTable.{PatchTable}
use Rattle.sym_expr.specs.declared.patches.PatchWord.{PatchWord}
use Rattle.sym_expr.specs.declared.program.CodeBlock.{CodeBlock}
use Rattle.sym_expr.specs.declared.program.DataBlock.{DataBlock}
use Rattle.sym_expr.specs.declared.program.Piece.{Piece}
use Rattle.sym_expr.specs.declared.program.Piece.TheVariants.{Code as CodePiece, Data as DataPiece, Gap}
use Rattle.sym_expr.specs.declared.program.Word.{Word}
use Rattle.sym_expr.specs.Layouts.{least_from}
use Rattle.sym_expr.specs.Modules.{bytes_at, end_of, id_of, is_code, size_of, word_of}
use Rattle.sym_expr.specs.Patches.{inserted_in, no_patches}
use Rattle.sym_expr.specs.Placing.{placed_from}
use Rattle.sym_expr.specs.Points.{data_size, object_alignment}
use Rattle.sym_expr.specs.Program.{code_block, data_block, own_words, patched_word, piece, pieces}
use Rattle.sym_expr.specs.Tables.{Tables, alignment_entry}
use Rattle.repaired_programs.proofs.Bare.{either_gap, gap_new}
use Rattle.repaired_programs.proofs.Becomes.{IsFit, length-own_words, whole_code}
use Rattle.repaired_programs.proofs.Spots.{Behind, length-bytes_at, no_padding}
use Rattle.repaired_programs.proofs.Walks.{step_divides}

-- a block in which nothing is inserted is one part
abbrev pub IsOnePart : CodeBlock → Type 0
IsOnePart b = b.inserted ≡ [] → parts b ≡ part 0 (patched_words b) ∷ []

-- ---- single pieces that need no padding

quiet_words : (offset : ℕ) (ws : List Word) → map plain_word (words_from [] offset ws) ≡ map bare_word ws
quiet_words offset [] = refl
quiet_words offset (w ∷ ws) = ap (λ l. bare_word w ∷ l) (quiet_words (offset + 4) ws)

pub quiet_new : ((b : CodeBlock) → IsOnePart b) → (m : Module) (g : List ℕ) (c : CodeBlock) (rest : List Piece) → c.inserted ≡ []
    → new_pieces m g c.offset (placed_from c.offset (CodePiece c ∷ rest))
    ≡ gap_of g ++ CodePiece (record { id = c.id; offset = c.offset; own = map bare_word c.own; inserted = [] }) ∷ new_pieces m [] (c.offset + 4 * length c.own) (placed_from (c.offset + 4 * length c.own) rest)
quiet_new one m g c rest none =
    let size : ℕ = 4 * (length c.own + length c.inserted) in
    let behind = λ (k : ℕ). new_pieces m [] k (placed_from k rest) in
    let still : least_from c.offset 1 0 ≡ c.offset = no_padding c.offset 1 (omega arith) in
    let zero_bytes : c.offset - c.offset ≡ 0 = omega arith in
    let zero_words : length c.inserted ≡ 0 = ap (λ (l : List (ℕ × Word)). length l) none in
    let more : c.offset + size ≡ c.offset + 4 * length c.own = omega (arith, zero_words) in
    let start : c.offset + 0 ≡ c.offset = omega arith in
    let words : map plain_word (patched_words c) ≡ map bare_word c.own = ap (λ l. map plain_word (words_from (numbered 0 l) 0 c.own)) none ∙ quiet_words 0 c.own in
    ap (λ k. gap_of (g ++ replicate (k - c.offset) 0) ++ (map (part_piece m c.id k) (parts c) ++ behind (k + size))) still
    ∙ ap (λ z. gap_of (g ++ replicate z 0) ++ (map (part_piece m c.id c.offset) (parts c) ++ behind (c.offset + size))) zero_bytes
    ∙ ap (λ l. gap_of l ++ (map (part_piece m c.id c.offset) (parts c) ++ behind (c.offset + size))) (append-nil g)
    ∙ ap (λ qs. gap_of g ++ (map (part_piece m c.id c.offset) qs ++ behind (c.offset + size))) (one c none)
    ∙ ap (λ k. gap_of g ++ CodePiece (record { id = c.id; offset = k; own = map plain_word (patched_words c); inserted = [] }) ∷ behind (c.offset + size)) start
    ∙ ap (λ ws. gap_of g ++ CodePiece (record { id = c.id; offset = c.offset; own = ws; inserted = [] }) ∷ behind (c.offset + size)) words
    ∙ ap (λ k. gap_of g ++ CodePiece (record { id = c.id; offset = c.offset; own = map bare_word c.own; inserted = [] }) ∷ behind k) more

quiet_data : (m : Module) (g : List ℕ) (d : DataBlock) (rest : List Piece)
    → new_pieces m g d.offset (placed_from d.offset (DataPiece d ∷ rest)) ≡ gap_of g ++ DataPiece (record d { fillings = [] }) ∷ new_pieces m [] (d.offset + data_size d) (placed_from (d.offset + data_size d) rest)
quiet_data m g d rest =
    let behind = λ (k : ℕ). new_pieces m [] k (placed_from k rest) in
    let still : least_from d.offset (object_alignment d) 0 ≡ d.offset = no_padding d.offset (object_alignment d) (step_divides d.alignment (data_size d) d.offset) in
    let zero_bytes : d.offset - d.offset ≡ 0 = omega arith in
    ap (λ k. gap_of (g ++ replicate (k - d.offset) 0) ++ DataPiece (record d { offset = k; fillings = [] }) ∷ behind (k + data_size d)) still
    ∙ ap (λ z. gap_of (g ++ replicate z 0) ++ DataPiece (record d { fillings = [] }) ∷ behind (d.offset + data_size d)) zero_bytes
    ∙ ap (λ l. gap_of l ++ DataPiece (record d { fillings = [] }) ∷ behind (d.offset + data_size d)) (append-nil g)

-- ---- an interval without words

nil_of : {X : Type 0} (xs : List X) → length xs ≡ 0 → xs ≡ []
nil_of [] e = refl
nil_of (x ∷ xs) e = absurd (omega (arith, e))

bare_own : (n : Module) (m : Module) (p : PatchTable) (i : Interval) (at k : ℕ) → map bare_word (own_words n no_patches i at k) ≡ map bare_word (own_words m p i at k)
bare_own n m p i at zero = refl
bare_own n m p i at (suc k) = ap (λ l. record { word = word_of i at; target = None } ∷ l) (bare_own n m p i (at + 4) k)

module _ (one : (b : CodeBlock) → IsOnePart b) (m : Module) (t : Tables) (p : PatchTable) (i : Interval) (n : Module) (u : Tables) (same : (id : List ℕ) → alignment_entry u id ≡ alignment_entry t id) where
  abbrev either_piece : Module → Tables → PatchTable → Block → Bool → Piece
  either_piece x v q b c = if c then CodePiece (code_block x q i b) else DataPiece (data_block x v q i b)

  piece_still : (b : Block) (g : List ℕ) (rest : List Piece) (x : Bool) → is_code b ≡ x → IsFit m p i b → has_words p b ≡ false
      → new_pieces m g b.offset (placed_from b.offset (either_piece m t p b x ∷ rest)) ≡ gap_of g ++ bare_piece (either_piece n u no_patches b x) ∷ new_pieces m [] (end_of b) (placed_from (end_of b) rest)
  piece_still b g rest true e fit none =
      let c : CodeBlock = code_block m p i b in
      let zero_words : length (inserted_in p (id_of b)) ≡ 0 = eqb-true (length (inserted_in p (id_of b))) 0 (not-false (length (inserted_in p (id_of b)) == 0) none) in
      let quiet : c.inserted ≡ [] = ap (map (λ (w : ℕ × PatchWord). let v : ℕ × Word = (w.0, patched_word m p w.1) in v)) (nil_of (inserted_in p (id_of b)) zero_words) in
      let count = length-own_words m p i b.offset (size_of b / 4) in
      let whole = whole_code b fit.straight e in
      let next : b.offset + 4 * length c.own ≡ end_of b = omega (arith, count, whole) in
      quiet_new one m g c rest quiet
      ∙ ap (λ ws. gap_of g ++ CodePiece (record { id = id_of b; offset = b.offset; own = ws; inserted = [] }) ∷ new_pieces m [] (b.offset + 4 * length c.own) (placed_from (b.offset + 4 * length c.own) rest)) (sym (bare_own n m p i b.offset (size_of b / 4)))
      ∙ ap (λ k. gap_of g ++ bare_piece (CodePiece (code_block n no_patches i b)) ∷ new_pieces m [] k (placed_from k rest)) next
  piece_still b g rest false e fit none =
      let d : DataBlock = data_block m t p i b in
      let size = length-bytes_at i b.offset (size_of b) in
      let next : b.offset + data_size d ≡ end_of b = omega (arith, size) in
      quiet_data m g d rest
      ∙ ap (λ o. gap_of g ++ DataPiece (record { id = id_of b; offset = b.offset; bytes = bytes_at i b.offset (size_of b); fillings = []; alignment = o }) ∷ new_pieces m [] (b.offset + data_size d) (placed_from (b.offset + data_size d) rest)) (sym (same (id_of b)))
      ∙ ap (λ k. gap_of g ++ bare_piece (DataPiece (data_block n u no_patches i b)) ∷ new_pieces m [] k (placed_from k rest)) next

  last_still : (at : ℕ) (x : Bool) → (i.size - at == 0) ≡ x → let g : List Piece = if x then [] else Gap (bytes_at i at (i.size - at)) ∷ [] in map bare_piece g ≡ new_pieces m [] at (placed_from at g)
  last_still at true e = refl
  last_still at false e =
      let size = length-bytes_at i at (i.size - at) in
      ap (λ x. if x then [] else Gap (bytes_at i at (i.size - at)) ∷ []) (sym (ap (λ k. k == 0) size ∙ e))

  pub still_bare : (at : ℕ) (bs : List Block) → Behind at bs → Every (IsFit m p i) bs → Every (λ b. has_words p b ≡ false) bs
      → map bare_piece (pieces n u no_patches i at bs) ≡ new_pieces m [] at (placed_from at (pieces m t p i at bs))
  still_bare at [] behind fit none = last_still at (i.size - at == 0) refl
  still_bare at (b ∷ bs) behind fit none =
      let g : List ℕ = bytes_at i at (b.offset - at) in
      let tail : List Piece = piece m t p i b ∷ pieces m t p i (end_of b) bs in
      let le : at ≤ b.offset = behind.0 in
      let place : at + (b.offset - at) ≡ b.offset = omega (arith, le) in
      let size = length-bytes_at i at (b.offset - at) in
      let first : Piece = piece n u no_patches i b in
      either_gap (b.offset - at == 0) g (first ∷ pieces n u no_patches i (end_of b) bs)
      ∙ ap (λ k. (if k == 0 then [] else Gap g ∷ []) ++ bare_piece first ∷ map bare_piece (pieces n u no_patches i (end_of b) bs)) (sym size)
      ∙ ap (λ l. gap_of g ++ bare_piece first ∷ l) (still_bare (end_of b) bs behind.1 fit.1 none.1)
      ∙ sym (piece_still b g (pieces m t p i (end_of b) bs) (is_code b) refl fit.0 none.0)
      ∙ ap (λ k. new_pieces m g k (placed_from k tail)) (sym place)
      ∙ sym (gap_new m i at b.offset at [] (b.offset - at == 0) tail refl)
