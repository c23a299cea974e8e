-- Inserted words: where they stand, and how many there are.
use Rattle.std.proofs.Common.{◌≡◌, ℕ, ◌+◌, ◌%◌, ◌≤◌, Bool, true, false, List, [], ◌∷◌, length, map, Option, Some, refl, ap, subst, ◌∙◌, arith}
use Rattle.std.specs.Prelude.{filter, find, if◌then◌else◌}
use Rattle.std.specs.List.{AllByRecursion as Every, flat_map, filter_map}
use Rattle.std.specs.Option.{IsSomeAnd}
use Rattle.std.specs.Str.{bytes_eq}
use Rattle.std.proofs.lemmas.List.{length-append, length-map, map-append}
use Rattle.gt_model.specs.declared.intervals.Block.{Block}
use Rattle.gt_model.specs.declared.intervals.Interval.{Interval}
use Rattle.gt_model.specs.declared.modules.Module.{Module}
use Rattle.sym_expr.specs.declared.patches.Insert.{Insert}
use Rattle.sym_expr.specs.declared.patches.PatchTable.{PatchTable}
use Rattle.sym_expr.specs.declared.patches.PatchWord.{PatchWord}
use Rattle.sym_expr.specs.Modules.{block_of, blocks_of, has_id, id_of, in_order, loaded_intervals, size_of}
use Rattle.sym_expr.specs.Patches.{inserted_in}
use Rattle.sym_expr.specs.TableOk.{IsInsert, IsSpot, patch_words, function_words}
use Rattle.sym_expr.proofs.Counts.{distinct_of_once, one, same_id, times, times_append}
use Rattle.sym_expr.proofs.Holders.{block_ids_of}
use Rattle.sym_expr.proofs.Listed.{found_in}
use Rattle.sym_expr.proofs.Lists.{every_filter, every_flat, every_map, every_part, every_weaker}
use Rattle.sym_expr.proofs.Orders.{each_in_order, times_in_order}
use Rattle.sym_expr.proofs.Rooms.{put_among}

abbrev put : Insert → List (ℕ × PatchWord)
put x = map (λ (w : PatchWord). (x.offset, w)) x.body

abbrev into : List ℕ → Insert → Bool
into id x = bytes_eq x.block id

-- ---- how many

abbrev put_of : List Insert → List ℕ → ℕ
put_of xs id = length (flat_map put (filter (into id) xs))

put_next : (x : Insert) (xs : List Insert) (id : List ℕ) → put_of (x ∷ xs) id ≡ (if into id x then length x.body else 0) + put_of xs id
put_next x xs id = at (into id x)
  where
    at : (b : Bool) → length (flat_map put (if b then x ∷ filter (into id) xs else filter (into id) xs)) ≡ (if b then length x.body else 0) + put_of xs id
    at true = length-append (put x) (flat_map put (filter (into id) xs)) ∙ ap (λ n. n + put_of xs id) (length-map x.body (λ (w : PatchWord). let v : ℕ × PatchWord = (x.offset, w) in v))
    at false = omega arith

abbrev all_put : List Insert → List (List ℕ) → ℕ
all_put xs [] = 0
all_put xs (id ∷ ids) = put_of xs id + all_put xs ids

abbrev hits : Insert → List (List ℕ) → ℕ
hits x [] = 0
hits x (id ∷ ids) = (if into id x then length x.body else 0) + hits x ids

no_hits : (x : Insert) (ids : List (List ℕ)) → times x.block ids ≤ 0 → hits x ids ≡ 0
no_hits x [] h = refl
no_hits x (id ∷ ids) h = at (into id x) h (λ k. no_hits x ids k)
  where
    at : (b : Bool) → one b + times x.block ids ≤ 0 → (times x.block ids ≤ 0 → hits x ids ≡ 0) → (if b then length x.body else 0) + hits x ids ≡ 0
    at true k rest = absurd (omega arith)
    at false k rest = let none = rest (omega (arith, k)) in omega (arith, none)

few_hits : (x : Insert) (ids : List (List ℕ)) → times x.block ids ≤ 1 → hits x ids ≤ length x.body
few_hits x [] h = omega arith
few_hits x (id ∷ ids) h = at (into id x) h (λ k. few_hits x ids k)
  where
    at : (b : Bool) → one b + times x.block ids ≤ 1 → (times x.block ids ≤ 1 → hits x ids ≤ length x.body) → (if b then length x.body else 0) + hits x ids ≤ length x.body
    at true k rest = let none = no_hits x ids (omega (arith, k)) in omega (arith, none)
    at false k rest = let few = rest (omega (arith, k)) in omega (arith, few)

none_put : (ids : List (List ℕ)) → all_put [] ids ≡ 0
none_put [] = refl
none_put (id ∷ ids) = let rest = none_put ids in omega (arith, rest)

all_next : (x : Insert) (xs : List Insert) (ids : List (List ℕ)) → all_put (x ∷ xs) ids ≡ hits x ids + all_put xs ids
all_next x xs [] = refl
all_next x xs (id ∷ ids) =
    let here = put_next x xs id in
    let rest = all_next x xs ids in
    omega (arith, here, rest)

abbrev bodies : List Insert → List PatchWord
bodies xs = flat_map (λ (x : Insert). x.body) xs

most_put : (xs : List Insert) (ids : List (List ℕ)) → ((id : List ℕ) → times id ids ≤ 1) → all_put xs ids ≤ length (bodies xs)
most_put [] ids h = let none = none_put ids in omega (arith, none)
most_put (x ∷ xs) ids h =
    let next = all_next x xs ids in
    let few = few_hits x ids (h x.block) in
    let rest = most_put xs ids h in
    let all = length-append x.body (bodies xs) in
    omega (arith, next, few, rest, all)

same_put : (p : PatchTable) (ids : List (List ℕ)) → put_among p ids ≡ all_put p.inserts ids
same_put p [] = refl
same_put p (id ∷ ids) = ap (λ n. put_of p.inserts id + n) (same_put p ids)

-- identifiers that are apart get no more words than there are
pub put_most : (p : PatchTable) (ids : List (List ℕ)) → ((id : List ℕ) → times id ids ≤ 1) → put_among p ids ≤ length (patch_words p)
put_most p ids h =
    let same = same_put p ids in
    let most = most_put p.inserts ids h in
    let all = length-append (bodies p.inserts) (flat_map function_words p.functions) in
    omega (arith, same, most, all)

-- ---- where

times_listed : (id : List ℕ) (is : List Interval) → times id (map id_of (blocks_of is)) ≡ times id (flat_map block_ids_of is)
times_listed id [] = refl
times_listed id (i ∷ is) =
    let both = ap (times id) (map-append id_of i.blocks (blocks_of is)) in
    let a = times_append id (map id_of i.blocks) (map id_of (blocks_of is)) in
    let b = times_append id (block_ids_of i) (flat_map block_ids_of is) in
    let here = times_in_order id id_of i.blocks in
    let rest = times_listed id is in
    omega (arith, both, a, b, here, rest)

all_some : (bs : List Block) → filter_map (λ (b : Block). Some b) bs ≡ bs
all_some [] = refl
all_some (b ∷ bs) = ap (λ l. b ∷ l) (all_some bs)

each_found : (bs : List Block) → ((id : List ℕ) → times id (map id_of bs) ≤ 1) → Every (λ b. find (has_id (id_of b)) bs ≡ Some b) bs
each_found bs h =
    let Q : List Block → Type 0 = λ l. Every (λ b. find (λ w. bytes_eq (id_of w) (id_of b)) l ≡ Some b) bs in
    subst Q (all_some bs) (found_in (λ (b : Block). Some b) id_of id_of (λ b. refl) bs (distinct_of_once (map id_of bs) h))

-- the insert stands in the block
abbrev Stands : Insert → Block → Type 0
Stands x b = into (id_of b) x ≡ true → (x.offset % 4 ≡ 0) × (x.offset ≤ size_of b)

stands : (m : Module) (x : Insert) (b : Block) → IsInsert m x → find (has_id (id_of b)) (blocks_of (loaded_intervals m)) ≡ Some b → Stands x b
stands m x b h found here =
    let same : x.block ≡ id_of b = same_id x.block (id_of b) here in
    let P : Option Block → Type 0 = λ o. IsSomeAnd o (IsSpot x.offset) in
    let spot = subst P (ap (λ id. block_of id (blocks_of (loaded_intervals m))) same ∙ found) h.spot in
    (spot.whole, spot.within)

pub all_stand : (m : Module) (p : PatchTable) → Every (IsInsert m) p.inserts → ((id : List ℕ) → times id (flat_map block_ids_of (loaded_intervals m)) ≤ 1)
    → Every (λ (i : Interval). Every (λ b. Every (λ x. Stands x b) p.inserts) (in_order i.blocks)) (loaded_intervals m)
all_stand m p h once =
    let bs = blocks_of (loaded_intervals m) in
    let C : Block → Type 0 = λ b. Every (λ x. Stands x b) p.inserts in
    let each = every_weaker (λ b. find (has_id (id_of b)) bs ≡ Some b) C (λ b found. every_weaker (IsInsert m) (λ x. Stands x b) (λ x k. stands m x b k found) p.inserts h) bs
    (each_found bs (λ id. let same = times_listed id (loaded_intervals m) in let most = once id in omega (arith, same, most))) in
    every_weaker (λ (i : Interval). Every C i.blocks) (λ (i : Interval). Every C (in_order i.blocks)) (λ i k. each_in_order C i.blocks k) (loaded_intervals m) (every_part (λ (i : Interval). i.blocks) C (loaded_intervals m) each)

one_put : (P : ℕ × PatchWord → Type 0) (W : PatchWord → Type 0) (x : Insert) → ((w : PatchWord) → W w → P (x.offset, w)) → Every W x.body → Every P (put x)
one_put P W x f h = every_map (λ (w : PatchWord). let v : ℕ × PatchWord = (x.offset, w) in v) P x.body (every_weaker W (λ w. P (x.offset, w)) f x.body h)

-- what is inserted in a block stands in it, and its words are as all words of the patches
pub inserted_stand : (p : PatchTable) (b : Block) (W : PatchWord → Type 0) → Every (λ x. Stands x b) p.inserts → Every (λ (x : Insert). Every W x.body) p.inserts
    → Every (λ (w : ℕ × PatchWord). (w.0 % 4 ≡ 0) × (w.0 ≤ size_of b) × W w.1) (inserted_in p (id_of b))
inserted_stand p b W h k =
    let P : ℕ × PatchWord → Type 0 = λ w. (w.0 % 4 ≡ 0) × (w.0 ≤ size_of b) × W w.1 in
    every_flat put P (filter (into (id_of b)) p.inserts)
    (every_filter (into (id_of b)) (λ x. Every P (put x)) p.inserts (both p.inserts h k))
  where
    both : (xs : List Insert) → Every (λ x. Stands x b) xs → Every (λ (x : Insert). Every W x.body) xs → Every (λ x. into (id_of b) x ≡ true → Every (λ (w : ℕ × PatchWord). (w.0 % 4 ≡ 0) × (w.0 ≤ size_of b) × W w.1) (put x)) xs
    both [] l n = tt
    both (x ∷ xs) l n = (λ here. one_put (λ (w : ℕ × PatchWord). (w.0 % 4 ≡ 0) × (w.0 ≤ size_of b) × W w.1) W x (λ w good. ((l.0 here).0, (l.0 here).1, good)) n.0, both xs l.1 n.1)
