-- The room and the alignment of pieces from an offset on, and what they are once the blocks stand at their new places.
use Rattle.std.proofs.Common.{◌≡◌, ℕ, zero, suc, ◌+◌, ◌-◌, ◌*◌, ◌/◌, ◌%◌, ◌^◌, ◌≤◌, Bool, true, false, List, [], ◌∷◌, ◌++◌, length, map, Option, Some, None, refl, sym, ap, ◌∙◌, subst, arith}
use Rattle.std.specs.Prelude.{max, ◌==◌, ◌&&◌, if◌then◌else◌}
use Rattle.std.specs.List.{AllByRecursion as Every, flat_map}
use Rattle.std.proofs.lemmas.Bool.{and_parts, both_ways, eqb-true, not-false}
use Rattle.std.proofs.lemmas.List.{length-map}
use Rattle.block_parts.specs.declared.words.PatchedWord.{PatchedWord}
use Rattle.block_parts.specs.Parts.{cut_words, is_cut, parts_from, put_first}
use Rattle.block_parts.specs.Words.{patched_words}
use Rattle.gt_model.specs.declared.intervals.Block.{Block}
use Rattle.gt_model.specs.declared.intervals.Body.{Body}
use Rattle.gt_model.specs.declared.intervals.Body.TheVariants as bodies
use Rattle.gt_model.specs.declared.intervals.Interval.{Interval}
use Rattle.gt_model.specs.declared.modules.Module.{Module}
use Rattle.rewrite.specs.Blocks.{part_block}
use Rattle.rewrite.specs.Rewritten.{has_words}
use Rattle.sym_expr.specs.declared.patches.PatchTable.{PatchTable}
use Rattle.sym_expr.specs.declared.patches.PatchWord.{PatchWord}
use Rattle.sym_expr.specs.declared.program.CodeBlock.{CodeBlock}
use Rattle.sym_expr.specs.declared.program.Piece.{Piece}
use Rattle.sym_expr.specs.declared.program.Piece.TheVariants.{Code as CodePiece, Data as DataPiece, Gap}
use Rattle.sym_expr.specs.declared.program.Word.{Word}
use Rattle.sym_expr.specs.Layouts.{least_from}
use Rattle.sym_expr.specs.Modules.{bytes_at, end_of, id_of, is_code, size_of}
use Rattle.sym_expr.specs.Patches.{inserted_in, no_patches}
use Rattle.sym_expr.specs.Placing.{Placed, end_from, greatest, new_size, placed_from}
use Rattle.sym_expr.specs.Program.{code_block, data_block, gap, patched_word, piece, pieces}
use Rattle.sym_expr.specs.Tables.{Tables, alignment_entry, common_power, effective}
use Rattle.repaired_programs.proofs.Becomes.{block_at, body_at, count, cut_count, IsFit, length-own_words}
use Rattle.repaired_programs.proofs.Spots.{length-bytes_at, no_padding, place_of, spots}

-- where pieces end, and the greatest alignment that one needs
abbrev pub walk : ℕ → List Piece → ℕ × ℕ
walk end ps = (end_from end ps, greatest (placed_from end ps))

-- one more piece needs an alignment
abbrev pub bump : ℕ → ℕ × ℕ → ℕ × ℕ
bump n w = (w.0, max n w.1)

pair_of : (a b c d : ℕ) → a ≡ c → b ≡ d → ◌≡◌ {A = ℕ × ℕ} (a, b) (c, d)
pair_of a b c d e f = let P : ℕ → ℕ × ℕ = λ n. (n, b) in let Q : ℕ → ℕ × ℕ = λ n. (c, n) in ap P e ∙ ap Q f

greatest_some : (xs : List Placed) → 1 ≤ greatest xs
greatest_some [] = omega arith
greatest_some (x ∷ xs) = let rest = greatest_some xs in omega (arith, rest)

bump_none : (end : ℕ) (ps : List Piece) → bump 1 (walk end ps) ≡ walk end ps
bump_none end ps =
    let some = greatest_some (placed_from end ps) in
    pair_of (end_from end ps) (max 1 (greatest (placed_from end ps))) (end_from end ps) (greatest (placed_from end ps)) refl (omega (arith, some))

pub bump_twice : (n : ℕ) (w : ℕ × ℕ) → bump n (bump n w) ≡ bump n w
bump_twice n w = pair_of w.0 (max n (max n w.1)) w.0 (max n w.1) refl (omega arith)

-- ---- gaps

pub gap_walk : (i : Interval) (from to end : ℕ) (x : Bool) (ps : List Piece) → (to - from == 0) ≡ x
    → walk end ((if x then [] else Gap (bytes_at i from (to - from)) ∷ []) ++ ps) ≡ walk (end + (to - from)) ps
gap_walk i from to end true ps e = let none = eqb-true (to - from) 0 e in let same : end ≡ end + (to - from) = omega (arith, none) in ap (λ n. walk n ps) same
gap_walk i from to end false ps e =
    let size = length-bytes_at i from (to - from) in
    let still = no_padding end 1 (omega arith) in
    let same : least_from end 1 0 + length (bytes_at i from (to - from)) ≡ end + (to - from) = omega (arith, size, still) in
    ap (λ n. bump 1 (walk n ps)) same ∙ bump_none (end + (to - from)) ps

pub last_gap : (i : Interval) (from to end : ℕ) (x : Bool) → (to - from == 0) ≡ x → walk end (if x then [] else Gap (bytes_at i from (to - from)) ∷ []) ≡ walk (end + (to - from)) []
last_gap i from to end true e = let none = eqb-true (to - from) 0 e in let same : end ≡ end + (to - from) = omega (arith, none) in ap (λ n. walk n []) same
last_gap i from to end false e =
    let size = length-bytes_at i from (to - from) in
    let still = no_padding end 1 (omega arith) in
    let same : least_from end 1 0 + length (bytes_at i from (to - from)) ≡ end + (to - from) = omega (arith, size, still) in
    ap (λ n. bump 1 (walk n [])) same ∙ bump_none (end + (to - from)) []

-- what a last gap of a new interval and of the old one end at
pub same_end : (i j : Interval) (end at : ℕ) → j.size ≡ end_from end (gap i at i.size) → walk end (gap j end j.size) ≡ walk end (gap i at i.size)
same_end i j end at e =
    let old = last_gap i at i.size end (i.size - at == 0) refl in
    let old_end : end_from end (gap i at i.size) ≡ end + (i.size - at) = ap (λ (w : ℕ × ℕ). w.0) old in
    let same : end + (j.size - end) ≡ end + (i.size - at) = omega (arith, e, old_end) in
    last_gap j end j.size end (j.size - end == 0) refl ∙ ap (λ n. walk n []) same ∙ sym old

-- ---- code

pub code_walk : (end : ℕ) (b : CodeBlock) (ps : List Piece) → walk end (CodePiece b ∷ ps) ≡ bump 4 (walk (end + 4 * (length b.own + length b.inserted)) ps)
code_walk end b ps = let still = no_padding end 1 (omega arith) in ap (λ n. bump 4 (walk (n + 4 * (length b.own + length b.inserted)) ps)) still

-- a code block of a module without patches
pub block_walk : (n : Module) (u : Tables) (j : Interval) (at end : ℕ) (b : Block) (k : ℕ) (bs : List Block) → is_code b ≡ true → size_of b ≡ 4 * k → at ≤ b.offset → end_of b ≡ end
    → walk at (pieces n u no_patches j at (b ∷ bs)) ≡ bump 4 (walk end (pieces n u no_patches j end bs))
block_walk n u j at end b k bs code size le e =
    let c : CodeBlock = code_block n no_patches j b in
    let rest : List Piece = pieces n u no_patches j (end_of b) bs in
    let start : at + (b.offset - at) ≡ b.offset = omega (arith, le) in
    let own = length-own_words n no_patches j b.offset (size_of b / 4) in
    let next : b.offset + 4 * (length c.own + 0) ≡ end_of b = omega (arith, own, size) in
    gap_walk j at b.offset at (b.offset - at == 0) (piece n u no_patches j b ∷ rest) refl
    ∙ ap (λ x. walk (at + (b.offset - at)) ((if x then CodePiece c else DataPiece (data_block n u no_patches j b)) ∷ rest)) code
    ∙ ap (λ x. walk x (CodePiece c ∷ rest)) start
    ∙ code_walk b.offset c rest
    ∙ ap (λ x. bump 4 (walk x rest)) next
    ∙ ap (λ x. bump 4 (walk x (pieces n u no_patches j x bs))) e

-- the parts of a block at a place
parts_walk : (n : Module) (u : Tables) (j : Interval) (m : Module) (block : List ℕ) (decode_mode place at start : ℕ) (words : List PatchedWord) (ps : List (List PatchedWord)) (bs : List Block) → at ≤ place + start
    → let end : ℕ = place + (start + 4 * count (words ∷ ps)) in
    walk at (pieces n u no_patches j at (map (part_block m block decode_mode place) (parts_from start (words ∷ ps)) ++ bs)) ≡ bump 4 (walk end (pieces n u no_patches j end bs))
parts_walk n u j m block decode_mode place at start words [] bs le =
    block_walk n u j at (place + (start + 4 * count (words ∷ []))) (part_block m block decode_mode place (record { start = start; words = words })) (length words) bs refl refl le (omega arith)
parts_walk n u j m block decode_mode place at start words (next ∷ ps) bs le =
    let b : Block = part_block m block decode_mode place (record { start = start; words = words }) in
    let same : place + (start + 4 * length words + 4 * count (next ∷ ps)) ≡ place + (start + 4 * count (words ∷ next ∷ ps)) = omega arith in
    block_walk n u j at (end_of b) b (length words) (map (part_block m block decode_mode place) (parts_from (start + 4 * length words) (next ∷ ps)) ++ bs) refl refl le refl
    ∙ ap (bump 4) (parts_walk n u j m block decode_mode place (end_of b) (start + 4 * length words) next ps bs (omega arith))
    ∙ bump_twice 4 (walk (place + (start + 4 * length words + 4 * count (next ∷ ps))) (pieces n u no_patches j (place + (start + 4 * length words + 4 * count (next ∷ ps))) bs))
    ∙ ap (λ x. bump 4 (walk x (pieces n u no_patches j x bs))) same

-- a block has a part
pub some_part : (ws : List PatchedWord) → (first : List PatchedWord) × (rest : List (List PatchedWord)) × (cut_words ws ≡ first ∷ rest)
some_part [] = ([], [], refl)
some_part (w ∷ []) = (w ∷ [], [], refl)
some_part (w ∷ next ∷ rest) = either (is_cut w next) (cut_words (next ∷ rest))
  where
    put_some : (ps : List (List PatchedWord)) → (first : List PatchedWord) × (rest : List (List PatchedWord)) × (put_first w ps ≡ first ∷ rest)
    put_some [] = (w ∷ [], [], refl)
    put_some (q ∷ qs) = (w ∷ q, qs, refl)

    either : (x : Bool) (ps : List (List PatchedWord)) → (first : List PatchedWord) × (rest : List (List PatchedWord)) × ((if x then (w ∷ []) ∷ ps else put_first w ps) ≡ first ∷ rest)
    either true ps = (w ∷ [], ps, refl)
    either false ps = put_some ps

abbrev IsParted : Module → Tables → Interval → Module → List ℕ → ℕ → ℕ → ℕ → List Block → List (List PatchedWord) → Type 0
IsParted n u j m block decode_mode place at bs ps =
    let end : ℕ = place + (0 + 4 * count ps) in
    walk at (pieces n u no_patches j at (map (part_block m block decode_mode place) (parts_from 0 ps) ++ bs)) ≡ bump 4 (walk end (pieces n u no_patches j end bs))

cut_walk : (n : Module) (u : Tables) (j : Interval) (m : Module) (block : List ℕ) (decode_mode place at : ℕ) (ws : List PatchedWord) (bs : List Block) → at ≤ place → IsParted n u j m block decode_mode place at bs (cut_words ws)
cut_walk n u j m block decode_mode place at ws bs le =
    let some = some_part ws in
    subst (IsParted n u j m block decode_mode place at bs) (sym some.2) (parts_walk n u j m block decode_mode place at 0 some.0 some.1 bs (omega (arith, le)))

-- ---- data

power_either : (k a b : ℕ) (x : Bool) → ((a % 2 ^ suc k == 0) && (b % 2 ^ suc k == 0)) ≡ x → b % common_power k a b ≡ 0 → b % (if x then 2 ^ suc k else common_power k a b) ≡ 0
power_either k a b true e h = eqb-true (b % 2 ^ suc k) 0 (and_parts (a % 2 ^ suc k == 0) (b % 2 ^ suc k == 0) e).1
power_either k a b false e h = h

power_divides : (k a b : ℕ) → b % common_power k a b ≡ 0
power_divides zero a b = omega arith
power_divides (suc k) a b = power_either k a b ((a % 2 ^ suc k == 0) && (b % 2 ^ suc k == 0)) refl (power_divides k a b)

either_divides : (x y : Bool) (n b : ℕ) → b % n ≡ 0 → b % (if x then 1 else if y then 1 else n) ≡ 0
either_divides true y n b h = omega arith
either_divides false true n b h = omega arith
either_divides false false n b h = h

pub step_divides : (o : Option ℕ) (size offset : ℕ) → offset % effective o size offset ≡ 0
step_divides None size offset = omega arith
step_divides (Some entry) size offset = either_divides (size == 0) (entry == 0) (common_power 12 entry offset) offset (power_divides 12 entry offset)

-- a data block of a module without patches needs no padding
data_walk : (n : Module) (u : Tables) (j : Interval) (at offset : ℕ) (uuid : List ℕ) (size : ℕ) (bs : List Block) → at ≤ offset
    → let b : Block = record { offset = offset; body = bodies.Data uuid size } in
    walk at (pieces n u no_patches j at (b ∷ bs)) ≡ bump (effective (alignment_entry u uuid) size offset) (walk (offset + size) (pieces n u no_patches j (offset + size) bs))
data_walk n u j at offset uuid size bs le =
    let b : Block = record { offset = offset; body = bodies.Data uuid size } in
    let rest : List Piece = pieces n u no_patches j (end_of b) bs in
    let start : at + (offset - at) ≡ offset = omega (arith, le) in
    let bytes = length-bytes_at j offset size in
    let o : Option ℕ = alignment_entry u uuid in
    let still : least_from offset (effective o size offset) 0 ≡ offset = no_padding offset (effective o size offset) (step_divides o size offset) in
    gap_walk j at offset at (offset - at == 0) (piece n u no_patches j b ∷ rest) refl
    ∙ ap (λ x. walk x (piece n u no_patches j b ∷ rest)) start
    ∙ ap (λ k. bump (effective o k (least_from offset (effective o k offset) 0)) (walk (least_from offset (effective o k offset) 0 + k) rest)) bytes
    ∙ ap (λ k. bump (effective o size k) (walk (k + size) rest)) still

-- ---- blocks at their new places

module _ (m : Module) (t : Tables) (p : PatchTable) (i : Interval) (n : Module) (u : Tables) (j : Interval) (same : (id : List ℕ) → alignment_entry u id ≡ alignment_entry t id) where
  abbrev next_end : ℕ → ℕ → Block → ℕ
  next_end end at b = place_of (end + (b.offset - at)) (piece m t p i b) + new_size (piece m t p i b)

  body_walk : (end at offset : ℕ) (body : Body) (news bs : List Block)
      → let b : Block = record { offset = offset; body = body } in IsFit m p i b
      → walk (next_end end at b) (pieces n u no_patches j (next_end end at b) news) ≡ walk (next_end end at b) (pieces m t p i (end_of b) bs)
      → walk end (pieces n u no_patches j end (body_at m p i (place_of (end + (offset - at)) (piece m t p i b)) b body ++ news)) ≡ walk (end + (offset - at)) (piece m t p i b ∷ pieces m t p i (end_of b) bs)
  body_walk end at offset bodies.Bare news bs fit rest = absurd (both_ways true fit.bodied refl)
  body_walk end at offset (bodies.Code uuid size decode_mode) news bs fit rest =
      let b : Block = record { offset = offset; body = bodies.Code uuid size decode_mode } in
      let words : List PatchedWord = patched_words (code_block m p i b) in
      let place : ℕ = place_of (end + (offset - at)) (piece m t p i b) in
      let counted = fit.counted refl in
      let all = cut_count words in
      let next : place + (0 + 4 * count (cut_words words)) ≡ next_end end at b = omega (arith, counted, all) in
      cut_walk n u j m uuid decode_mode place end words news (omega arith)
      ∙ ap (λ x. bump 4 (walk x (pieces n u no_patches j x news))) next
      ∙ ap (bump 4) rest
  body_walk end at offset (bodies.Data uuid size) news bs fit rest =
      let b : Block = record { offset = offset; body = bodies.Data uuid size } in
      let place : ℕ = place_of (end + (offset - at)) (piece m t p i b) in
      let bytes = length-bytes_at i offset size in
      let next : place + size ≡ next_end end at b = omega (arith, bytes) in
      data_walk n u j end place uuid size news (omega arith)
      ∙ ap (λ x. bump (effective (alignment_entry u uuid) size place) (walk x (pieces n u no_patches j x news))) next
      ∙ ap (bump (effective (alignment_entry u uuid) size place)) rest
      ∙ ap (λ o. bump (effective o size place) (walk (next_end end at b) (pieces m t p i (end_of b) bs))) (same uuid)
      ∙ ap (λ k. bump (effective (alignment_entry t uuid) k place) (walk (next_end end at b) (pieces m t p i (end_of b) bs))) (sym bytes)

  pub spots_walk : (end at : ℕ) (bs : List Block) → Every (IsFit m p i) bs → j.size ≡ end_from end (pieces m t p i at bs)
      → walk end (pieces n u no_patches j end (flat_map (block_at m p i) (spots (piece m t p i) end at bs))) ≡ walk end (pieces m t p i at bs)
  spots_walk end at [] fit e = same_end i j end at e
  spots_walk end at (b ∷ bs) fit e =
      let tail : List Piece = piece m t p i b ∷ pieces m t p i (end_of b) bs in
      let old = gap_walk i at b.offset end (b.offset - at == 0) tail refl in
      let last : end_from end (pieces m t p i at (b ∷ bs)) ≡ end_from (end + (b.offset - at)) tail = ap (λ (w : ℕ × ℕ). w.0) old in
      body_walk end at b.offset b.body (flat_map (block_at m p i) (spots (piece m t p i) (next_end end at b) (end_of b) bs)) bs fit.0 (spots_walk (next_end end at b) (end_of b) bs fit.1 (e ∙ last)) ∙ sym old

-- ---- an interval without words

module _ (m : Module) (t : Tables) (p : PatchTable) (i : Interval) (n : Module) (u : Tables) (same : (id : List ℕ) → alignment_entry u id ≡ alignment_entry t id) where
  piece_still : (from : ℕ) (b : Block) (ps qs : List Piece) (x : Bool) → has_words p b ≡ false → ((k : ℕ) → walk k ps ≡ walk k qs)
      → walk from ((if x then CodePiece (code_block n no_patches i b) else DataPiece (data_block n u no_patches i b)) ∷ ps) ≡ walk from ((if x then CodePiece (code_block m p i b) else DataPiece (data_block m t p i b)) ∷ qs)
  piece_still from b ps qs true none rest =
      let new = length-own_words n no_patches i b.offset (size_of b / 4) in
      let old = length-own_words m p i b.offset (size_of b / 4) in
      let more : length (code_block m p i b).inserted ≡ length (inserted_in p (id_of b)) = length-map (inserted_in p (id_of b)) (λ (w : ℕ × PatchWord). let v : ℕ × Word = (w.0, patched_word m p w.1) in v) in
      let zero_words = eqb-true (length (inserted_in p (id_of b))) 0 (not-false (length (inserted_in p (id_of b)) == 0) none) in
      let sizes : 4 * (length (code_block n no_patches i b).own + 0) ≡ 4 * (length (code_block m p i b).own + length (code_block m p i b).inserted) = omega (arith, new, old, more, zero_words) in
      ap (λ k. bump 4 (walk (least_from from 1 0 + k) ps)) sizes ∙ ap (bump 4) (rest (least_from from 1 0 + 4 * (length (code_block m p i b).own + length (code_block m p i b).inserted)))
  piece_still from b ps qs false none rest =
      let size : ℕ = length (bytes_at i b.offset (size_of b)) in
      ap (λ o. bump (effective o size (least_from from (effective o size b.offset) 0)) (walk (least_from from (effective o size b.offset) 0 + size) ps)) (same (id_of b))
      ∙ ap (bump (effective (alignment_entry t (id_of b)) size (least_from from (effective (alignment_entry t (id_of b)) size b.offset) 0))) (rest (least_from from (effective (alignment_entry t (id_of b)) size b.offset) 0 + size))

  pub still_walk : (end at : ℕ) (bs : List Block) → Every (λ b. has_words p b ≡ false) bs → walk end (pieces n u no_patches i at bs) ≡ walk end (pieces m t p i at bs)
  still_walk end at [] none = refl
  still_walk end at (b ∷ bs) none =
      gap_walk i at b.offset end (b.offset - at == 0) (piece n u no_patches i b ∷ pieces n u no_patches i (end_of b) bs) refl
      ∙ piece_still (end + (b.offset - at)) b (pieces n u no_patches i (end_of b) bs) (pieces m t p i (end_of b) bs) (is_code b) none.0 (λ k. still_walk k (end_of b) bs none.1)
      ∙ sym (gap_walk i at b.offset end (b.offset - at == 0) (piece m t p i b ∷ pieces m t p i (end_of b) bs) refl)
