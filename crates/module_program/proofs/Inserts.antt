-- What inserts put into a block, one insert further.
use Rattle.std.proofs.Common.{◌≡◌, ℕ, zero, suc, ◌+◌, ◌<◌, ◌≤◌, Bool, true, false, ◌&&◌, nat_eq, cond, List, [], ◌∷◌, ◌++◌, length, map, take, get_or, refl, sym, ap, subst, ◌∙◌, append-nil, arith, inl, inr}
use Rattle.std.specs.Prelude.{Some, filter, sum_by, unwrap_or}
use Rattle.std.specs.List.{flat_map}
use Rattle.std.specs.Str.{bytes_eq}
use Rattle.std.proofs.lemmas.Bool.{and_parts, cases_Bool, cond-true, cond-false, eqb-true}
use Rattle.std.proofs.lemmas.Bool.Decides.{nat_tests}
use Rattle.std.proofs.lemmas.List.{take_more, map-append, length-append}
use Rattle.std.proofs.lemmas.List.Concat.{flat_map-append}
use Rattle.std.proofs.lemmas.List.Elements.{filter-append}
use Rattle.std.proofs.lemmas.Slice.Eq.{bytes_eq-Decides}
use Rattle.std.proofs.lemmas.List.Sums.{sum_by-cons}
use Rattle.indexmap.specs.IndexMap.{get}
use Rattle.gt_model.specs.declared.modules.Module.{Module}
use Rattle.module_program.specs.Inserting.{count_among, inserted_among}
use Rattle.module_program.specs.Knowing.{words_among}
use Rattle.module_program.specs.Naming.{Counts, count_in, spot_eq}
use Rattle.sym_expr.specs.declared.patches.Insert.{Insert}
use Rattle.sym_expr.specs.declared.patches.PatchTable.{PatchTable}
use Rattle.sym_expr.specs.declared.patches.PatchWord.{PatchWord}
use Rattle.sym_expr.specs.declared.program.Word.{Word}
use Rattle.sym_expr.specs.Patches.{inserted_at}
use Rattle.sym_expr.specs.Program.{patched_word}

abbrev put : Insert → List (ℕ × PatchWord)
put i = map (λ (w : PatchWord). (i.offset, w)) i.body

abbrev into : List ℕ → Insert → Bool
into block i = bytes_eq i.block block

among_split : (xs ys : List Insert) (block : List ℕ) → inserted_among (xs ++ ys) block ≡ inserted_among xs block ++ inserted_among ys block
among_split xs ys block = ap (flat_map put) (filter-append (into block) xs ys) ∙ flat_map-append put (filter (into block) xs) (filter (into block) ys)

among_one : (i : Insert) (block : List ℕ) → inserted_among (i ∷ []) block ≡ cond (bytes_eq i.block block) (put i) []
among_one i block = elim (cases_Bool (bytes_eq i.block block)) [
  | inl h ↦ rw h (append-nil (put i))
  | inr h ↦ rw h refl
]

next_insert : (xs : List Insert) (k : ℕ) (i : Insert) → k < length xs → i ≡ get_or xs k i → take (k + 1) xs ≡ take k xs ++ i ∷ []
next_insert xs k i within is = take_more xs k i within ∙ ap (λ x. take k xs ++ x ∷ []) (sym is)

-- ---- words

abbrev with_word : Module → PatchTable → ℕ × PatchWord → ℕ × Word
with_word m p w = (w.0, patched_word m p w.1)

pub words_more : (m : Module) (p : PatchTable) (xs : List Insert) (k : ℕ) (i : Insert) (block : List ℕ) → k < length xs → i ≡ get_or xs k i
    → words_among m p (take (k + 1) xs) block ≡ words_among m p (take k xs) block ++ words_among m p (i ∷ []) block
words_more m p xs k i block within is =
    ap (λ l. words_among m p l block) (next_insert xs k i within is)
    ∙ ap (map (with_word m p)) (among_split (take k xs) (i ∷ []) block)
    ∙ map-append (with_word m p) (inserted_among (take k xs) block) (inserted_among (i ∷ []) block)

-- the words of an insert so far
abbrev pub so_far : Insert → List PatchWord → Insert
so_far i body = record { block = i.block; offset = i.offset; body = body }

both_put : (m : Module) (p : PatchTable) (t : Bool) (xs ys : List (ℕ × PatchWord)) → map (with_word m p) (cond t (xs ++ ys) []) ≡ map (with_word m p) (cond t xs []) ++ map (with_word m p) (cond t ys [])
both_put m p true xs ys = map-append (with_word m p) xs ys
both_put m p false xs ys = refl

one_put : (m : Module) (p : PatchTable) (t : Bool) (offset : ℕ) (w : PatchWord) → map (with_word m p) (cond t ((offset, w) ∷ []) []) ≡ cond t ((offset, patched_word m p w) ∷ []) []
one_put m p true offset w = refl
one_put m p false offset w = refl

pub word_more : (m : Module) (p : PatchTable) (i : Insert) (body : List PatchWord) (k : ℕ) (w : PatchWord) (block : List ℕ) → k < length body → w ≡ get_or body k w
    → words_among m p (so_far i (take (k + 1) body) ∷ []) block ≡ words_among m p (so_far i (take k body) ∷ []) block ++ cond (bytes_eq i.block block) ((i.offset, patched_word m p w) ∷ []) []
word_more m p i body k w block within is =
    let at : PatchWord → ℕ × PatchWord = λ w. (i.offset, w) in
    let more = take_more body k w within ∙ ap (λ x. take k body ++ x ∷ []) (sym is) in
    let t = bytes_eq i.block block in
    ap (map (with_word m p)) (among_one (so_far i (take (k + 1) body)) block)
    ∙ ap (λ l. map (with_word m p) (cond t (map at l) [])) more
    ∙ ap (λ l. map (with_word m p) (cond t l [])) (map-append at (take k body) (w ∷ []))
    ∙ both_put m p t (map at (take k body)) ((i.offset, w) ∷ [])
    ∙ ap (λ l. l ++ map (with_word m p) (cond t ((i.offset, w) ∷ []) [])) (ap (map (with_word m p)) (sym (among_one (so_far i (take k body)) block)))
    ∙ ap (λ l. words_among m p (so_far i (take k body) ∷ []) block ++ l) (one_put m p t i.offset w)

pub no_words : (m : Module) (p : PatchTable) (i : Insert) (block : List ℕ) → words_among m p (so_far i [] ∷ []) block ≡ []
no_words m p i block = ap (map (with_word m p)) (among_one (so_far i []) block) ∙ none (bytes_eq i.block block)
  where
    none : (t : Bool) → map (with_word m p) (cond t [] []) ≡ []
    none true = refl
    none false = refl

-- ---- counts

abbrev stands : ℕ → ℕ × PatchWord → Bool
stands offset w = nat_eq offset w.0

at_split : (offset : ℕ) (xs ys : List (ℕ × PatchWord)) → inserted_at offset (xs ++ ys) ≡ inserted_at offset xs ++ inserted_at offset ys
at_split offset xs ys =
    ap (map (λ (w : ℕ × PatchWord). w.1)) (filter-append (stands offset) xs ys)
    ∙ map-append (λ (w : ℕ × PatchWord). w.1) (filter (stands offset) xs) (filter (stands offset) ys)

-- all of an insert, or nothing of it
all_at : (offset at : ℕ) (ws : List PatchWord) → length (inserted_at offset (map (λ (w : PatchWord). (at, w)) ws)) ≡ cond (nat_eq offset at) (length ws) 0
all_at offset at [] = elim (cases_Bool (nat_eq offset at)) [ inl h ↦ rw h refl | inr h ↦ rw h refl ]
all_at offset at (w ∷ ws) = elim (cases_Bool (nat_eq offset at)) [
  | inl h ↦ let rest : length (inserted_at offset (map (λ (w : PatchWord). (at, w)) ws)) ≡ length ws = all_at offset at ws ∙ cond-true (nat_eq offset at) (length ws) 0 h in rw h (omega (arith, rest))
  | inr h ↦ let rest : length (inserted_at offset (map (λ (w : PatchWord). (at, w)) ws)) ≡ 0 = all_at offset at ws ∙ cond-false (nat_eq offset at) (length ws) 0 h in rw h rest
]

count_one : (i : Insert) (block : List ℕ) (offset : ℕ) → count_among (i ∷ []) block offset ≡ cond (bytes_eq i.block block && nat_eq offset i.offset) (length i.body) 0
count_one i block offset = ap (λ l. length (inserted_at offset l)) (among_one i block) ∙ either (bytes_eq i.block block)
  where
    either : (t : Bool) → length (inserted_at offset (cond t (put i) [])) ≡ cond (t && nat_eq offset i.offset) (length i.body) 0
    either true = all_at offset i.offset i.body
    either false = refl

swapped : (m n : ℕ) → nat_eq m n ≡ nat_eq n m
swapped m n = grind (arith, nat_tests)

pub count_more : (xs : List Insert) (k : ℕ) (i : Insert) (block : List ℕ) (offset : ℕ) → k < length xs → i ≡ get_or xs k i
    → count_among (take (k + 1) xs) block offset ≡ count_among (take k xs) block offset + cond (bytes_eq i.block block && nat_eq i.offset offset) (length i.body) 0
count_more xs k i block offset within is =
    ap (λ l. count_among l block offset) (next_insert xs k i within is)
    ∙ ap (λ l. length (inserted_at offset l)) (among_split (take k xs) (i ∷ []) block)
    ∙ ap length (at_split offset (inserted_among (take k xs) block) (inserted_among (i ∷ []) block))
    ∙ length-append (inserted_at offset (inserted_among (take k xs) block)) (inserted_at offset (inserted_among (i ∷ []) block))
    ∙ ap (λ n. count_among (take k xs) block offset + n) (count_one i block offset)
    ∙ ap (λ t. count_among (take k xs) block offset + cond (bytes_eq i.block block && t) (length i.body) 0) (swapped offset i.offset)

-- ---- no count passes all words

abbrev all_bodies : List Insert → ℕ
all_bodies xs = sum_by (λ (i : Insert). length i.body) xs

one_most : (i : Insert) (block : List ℕ) (offset : ℕ) → count_among (i ∷ []) block offset ≤ length i.body
one_most i block offset = subst (λ n. n ≤ length i.body) (sym (count_one i block offset)) (either (bytes_eq i.block block && nat_eq offset i.offset))
  where
    either : (t : Bool) → cond t (length i.body) 0 ≤ length i.body
    either true = omega arith
    either false = omega arith

count_cons : (i : Insert) (xs : List Insert) (block : List ℕ) (offset : ℕ) → count_among (i ∷ xs) block offset ≡ count_among (i ∷ []) block offset + count_among xs block offset
count_cons i xs block offset =
    ap (λ l. length (inserted_at offset l)) (among_split (i ∷ []) xs block)
    ∙ ap length (at_split offset (inserted_among (i ∷ []) block) (inserted_among xs block))
    ∙ length-append (inserted_at offset (inserted_among (i ∷ []) block)) (inserted_at offset (inserted_among xs block))

-- what is counted and one insert more are at most all
pub count_room : (xs : List Insert) (k : ℕ) (i : Insert) (block : List ℕ) (offset : ℕ) → k < length xs → i ≡ get_or xs k i → count_among (take k xs) block offset + length i.body ≤ all_bodies xs
count_room [] k i block offset within is = absurd (omega arith)
count_room (x ∷ xs) zero i block offset within is =
    let same : length i.body ≡ length x.body = ap (λ (j : Insert). length j.body) is in
    let all : all_bodies (x ∷ xs) ≡ length x.body + all_bodies xs = sum_by-cons (λ (i : Insert). length i.body) x xs in
    omega (arith, same, all)
count_room (x ∷ xs) (suc k) i block offset within is =
    let rest = count_room xs k i block offset (omega arith) is in
    let step = count_cons x (take k xs) block offset in
    let most = one_most x block offset in
    let all : all_bodies (x ∷ xs) ≡ length x.body + all_bodies xs = sum_by-cons (λ (i : Insert). length i.body) x xs in
    omega (arith, rest, step, most, all)

-- ---- one count more

plus_none : (n : ℕ) → n ≡ n + 0
plus_none n = omega arith

pub count_put : (old new : Counts) (block : List ℕ) (offset words before : ℕ) → before ≡ count_in old block offset
    → ((q : List ℕ × ℕ) → get spot_eq new q ≡ cond (spot_eq (block, offset) q) (Some (before + words)) (get spot_eq old q))
    → (b : List ℕ) (at : ℕ) → count_in new b at ≡ count_in old b at + cond (spot_eq (block, offset) (b, at)) words 0
count_put old new block offset words before same put b at = elim (cases_Bool (spot_eq (block, offset) (b, at))) [
  | inl h ↦
      let parts = and_parts (bytes_eq block b) (nat_eq offset at) h in
      let here = ap (λ x. count_in old x offset) ((bytes_eq-Decides block b).0 parts.0) ∙ ap (count_in old b) (eqb-true offset at parts.1) in
      ap (λ o. unwrap_or o 0) (put (b, at) ∙ cond-true (spot_eq (block, offset) (b, at)) (Some (before + words)) (get spot_eq old (b, at)) h)
      ∙ ap (λ n. n + words) (same ∙ here)
      ∙ ap (λ n. count_in old b at + n) (sym (cond-true (spot_eq (block, offset) (b, at)) words 0 h))
  | inr h ↦
      ap (λ o. unwrap_or o 0) (put (b, at) ∙ cond-false (spot_eq (block, offset) (b, at)) (Some (before + words)) (get spot_eq old (b, at)) h)
      ∙ plus_none (count_in old b at)
      ∙ ap (λ n. count_in old b at + n) (sym (cond-false (spot_eq (block, offset) (b, at)) words 0 h))
]
