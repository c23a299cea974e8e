-- The intervals of a program with patches: those of the module, and the functions once, with the section of the entry.
use Rattle.std.proofs.Common.{◌≡◌, ℕ, ◌+◌, ◌≤◌, Bool, true, false, ◌||◌, List, [], ◌∷◌, ◌++◌, map, Option, Some, None, refl, sym, ap, subst, ◌∙◌, arith}
use Rattle.std.specs.Prelude.{if◌then◌else◌, unwrap_or}
use Rattle.std.specs.List.{AllByRecursion as Every, flat_map, list_any}
use Rattle.std.specs.Option.{option_map_or}
use Rattle.std.specs.Str.{bytes_eq}
use Rattle.std.proofs.lemmas.Bool.{false≢true}
use Rattle.std.proofs.lemmas.List.{map-append}
use Rattle.std.proofs.lemmas.List.Folds.{list_any-append}
use Rattle.std.proofs.lemmas.List.Concat.{flat_map-append}
use Rattle.gt_model.specs.declared.intervals.Block.{Block}
use Rattle.gt_model.specs.declared.intervals.Interval.{Interval}
use Rattle.gt_model.specs.declared.modules.Module.{Module}
use Rattle.gt_model.specs.declared.modules.Section.{Section}
use Rattle.sym_expr.specs.declared.patches.PatchTable.{PatchTable}
use Rattle.sym_expr.specs.declared.program.Stretch.{Stretch}
use Rattle.sym_expr.specs.Linkable.{have_block, is_entered}
use Rattle.sym_expr.specs.Modules.{blocks_of, has_id, id_of, intervals_of, loaded_intervals, loaded_sections}
use Rattle.sym_expr.specs.Program.{entry_of, function_stretch, has_entry, section_stretches, stretch}
use Rattle.sym_expr.specs.Tables.{Tables}
use Rattle.sym_expr.proofs.Counts.{id_same, one, same_id, times, times_append}
use Rattle.sym_expr.proofs.Holders.{block_ids_of}
use Rattle.sym_expr.proofs.Lists.{every_append, every_front, every_back}
use Rattle.sym_expr.proofs.Orders.{times_in_order}

-- the functions as intervals
abbrev pub brought : Module → PatchTable → List Stretch
brought m p = map (function_stretch m p) p.functions

-- so many for each section that has the entry
abbrev pub extra : Module → List Section → ℕ → ℕ
extra m [] n = 0
extra m (s ∷ ss) n = (if has_entry m s then n else 0) + extra m ss n

none_extra : (m : Module) (ss : List Section) (n : ℕ) → extra m ss 1 ≤ 0 → extra m ss n ≡ 0
none_extra m [] n h = refl
none_extra m (s ∷ ss) n h = at (has_entry m s) (λ k. none_extra m ss n k) h
  where
    at : (x : Bool) → (extra m ss 1 ≤ 0 → extra m ss n ≡ 0) → (if x then 1 else 0) + extra m ss 1 ≤ 0 → (if x then n else 0) + extra m ss n ≡ 0
    at true rest k = absurd (omega arith)
    at false rest k = let none = rest (omega (arith, k)) in omega (arith, none)

-- at most once
pub once_extra : (m : Module) (ss : List Section) (n : ℕ) → extra m ss 1 ≤ 1 → extra m ss n ≤ n
once_extra m [] n h = omega arith
once_extra m (s ∷ ss) n h = at (has_entry m s) (λ k. once_extra m ss n k) h
  where
    at : (x : Bool) → (extra m ss 1 ≤ 1 → extra m ss n ≤ n) → (if x then 1 else 0) + extra m ss 1 ≤ 1 → (if x then n else 0) + extra m ss n ≤ n
    at true rest k = let none = none_extra m ss n (omega (arith, k)) in omega (arith, none)
    at false rest k = let most = rest (omega (arith, k)) in omega (arith, most)

-- a number that is the sum of its parts'
pub both_parts : (size : List Stretch → ℕ) → size [] ≡ 0 → ((xs ys : List Stretch) → size (xs ++ ys) ≡ size xs + size ys) → (m : Module) (t : Tables) (p : PatchTable) (ss : List Section)
    → size (flat_map (section_stretches m t p) ss) ≡ size (map (stretch m t p) (intervals_of ss)) + extra m ss (size (brought m p))
both_parts size nothing joined m t p [] = omega (arith, nothing)
both_parts size nothing joined m t p (s ∷ ss) =
    let own = map (stretch m t p) s.intervals in
    let last : List Stretch = if has_entry m s then brought m p else [] in
    let rest = both_parts size nothing joined m t p ss in
    let a = joined (own ++ last) (flat_map (section_stretches m t p) ss) in
    let b = joined own last in
    let c = ap size (map-append (stretch m t p) s.intervals (intervals_of ss)) in
    let d = joined own (map (stretch m t p) (intervals_of ss)) in
    let e = last_size (has_entry m s) in
    omega (arith, rest, a, b, c, d, e)
  where
    last_size : (x : Bool) → size (if x then brought m p else []) ≡ (if x then size (brought m p) else 0)
    last_size true = refl
    last_size false = nothing

-- what holds of both holds of all
pub all_parts : (P : Stretch → Type 0) (m : Module) (t : Tables) (p : PatchTable) (ss : List Section) → Every P (map (stretch m t p) (intervals_of ss)) → Every P (brought m p) → Every P (flat_map (section_stretches m t p) ss)
all_parts P m t p [] h k = tt
all_parts P m t p (s ∷ ss) h k =
    let own = map (stretch m t p) s.intervals in
    let others = map (stretch m t p) (intervals_of ss) in
    let split = let Q : List Stretch → Type 0 = λ l. Every P l in subst Q (map-append (stretch m t p) s.intervals (intervals_of ss)) h in
    every_append P (own ++ (if has_entry m s then brought m p else [])) (flat_map (section_stretches m t p) ss)
    (every_append P own (if has_entry m s then brought m p else []) (every_front P own others split) (at (has_entry m s)))
    (all_parts P m t p ss (every_back P own others split) k)
  where
    at : (x : Bool) → Every P (if x then brought m p else [])
    at true = k
    at false = tt

-- what holds of all holds of the module's, and of the functions, where a section has the entry
pub own_parts : (P : Stretch → Type 0) (m : Module) (t : Tables) (p : PatchTable) (ss : List Section) → Every P (flat_map (section_stretches m t p) ss) → Every P (map (stretch m t p) (intervals_of ss))
own_parts P m t p [] h = tt
own_parts P m t p (s ∷ ss) h =
    let own = map (stretch m t p) s.intervals in
    let last : List Stretch = if has_entry m s then brought m p else [] in
    let here = every_front P own last (every_front P (own ++ last) (flat_map (section_stretches m t p) ss) h) in
    let rest = own_parts P m t p ss (every_back P (own ++ last) (flat_map (section_stretches m t p) ss) h) in
    let Q : List Stretch → Type 0 = λ l. Every P l in
    subst Q (sym (map-append (stretch m t p) s.intervals (intervals_of ss))) (every_append P own (map (stretch m t p) (intervals_of ss)) here rest)

pub brought_parts : (P : Stretch → Type 0) (m : Module) (t : Tables) (p : PatchTable) (ss : List Section) → 1 ≤ extra m ss 1 → Every P (flat_map (section_stretches m t p) ss) → Every P (brought m p)
brought_parts P m t p [] some h = absurd (omega arith)
brought_parts P m t p (s ∷ ss) some h = at (has_entry m s) some (λ l. brought_parts P m t p ss l (every_back P (own ++ (if has_entry m s then brought m p else [])) (flat_map (section_stretches m t p) ss) h)) (every_back P own (if has_entry m s then brought m p else []) (every_front P (own ++ (if has_entry m s then brought m p else [])) (flat_map (section_stretches m t p) ss) h))
  where
    own : List Stretch
    own = map (stretch m t p) s.intervals

    at : (x : Bool) → 1 ≤ (if x then 1 else 0) + extra m ss 1 → (1 ≤ extra m ss 1 → Every P (brought m p)) → Every P (if x then brought m p else []) → Every P (brought m p)
    at true l rest k = k
    at false l rest k = rest (omega (arith, l))

-- ---- the section of the entry

at_least_one : (id x : List ℕ) (n : ℕ) → bytes_eq x id ≡ true → 1 ≤ one (bytes_eq id x) + n
at_least_one id x n h =
    let same : bytes_eq id x ≡ true = let P : List ℕ → Type 0 = λ z. bytes_eq id z ≡ true in subst P (sym (same_id x id h)) (id_same id) in
    let here : one (bytes_eq id x) ≡ 1 = ap one same in
    omega (arith, here)

any_times : (id : List ℕ) (bs : List Block) → list_any (has_id id) bs ≡ true → 1 ≤ times id (map id_of bs)
any_times id [] h = absurd (false≢true h)
any_times id (b ∷ bs) h = at (has_id id b) refl (λ k. any_times id bs k) h
  where
    at : (x : Bool) → has_id id b ≡ x → (list_any (has_id id) bs ≡ true → 1 ≤ times id (map id_of bs)) → (x || list_any (has_id id) bs) ≡ true → 1 ≤ times id (map id_of (b ∷ bs))
    at true is rest k = at_least_one id (id_of b) (times id (map id_of bs)) is
    at false is rest k = let some = rest k in omega (arith, some)

interval_times : (id : List ℕ) (i : Interval) → list_any (has_id id) i.blocks ≡ true → 1 ≤ times id (block_ids_of i)
interval_times id i h =
    let some = any_times id i.blocks h in
    let same = times_in_order id id_of i.blocks in
    omega (arith, some, same)

section_times : (id : List ℕ) (is : List Interval) → list_any (λ (i : Interval). list_any (has_id id) i.blocks) is ≡ true → 1 ≤ times id (flat_map block_ids_of is)
section_times id [] h = absurd (false≢true h)
section_times id (i ∷ is) h = at (list_any (has_id id) i.blocks) refl (λ k. section_times id is k) h
  where
    both : times id (flat_map block_ids_of (i ∷ is)) ≡ times id (block_ids_of i) + times id (flat_map block_ids_of is)
    both = times_append id (block_ids_of i) (flat_map block_ids_of is)

    at : (x : Bool) → list_any (has_id id) i.blocks ≡ x → (list_any (λ (i : Interval). list_any (has_id id) i.blocks) is ≡ true → 1 ≤ times id (flat_map block_ids_of is))
        → (x || list_any (λ (i : Interval). list_any (has_id id) i.blocks) is) ≡ true → 1 ≤ times id (flat_map block_ids_of (i ∷ is))
    at true here rest k = let some = interval_times id i here in omega (arith, some, both)
    at false here rest k = let some = rest k in omega (arith, some, both)

-- no more sections have the entry than blocks have its identifier
pub entry_times : (m : Module) (ss : List Section) → extra m ss 1 ≤ times (entry_of m) (flat_map block_ids_of (intervals_of ss))
entry_times m [] = omega arith
entry_times m (s ∷ ss) =
    let rest = entry_times m ss in
    let both = ap (times (entry_of m)) (flat_map-append block_ids_of s.intervals (intervals_of ss)) in
    let sum = times_append (entry_of m) (flat_map block_ids_of s.intervals) (flat_map block_ids_of (intervals_of ss)) in
    let here = at (has_entry m s) refl in
    omega (arith, rest, both, sum, here)
  where
    at : (x : Bool) → has_entry m s ≡ x → (if x then 1 else 0) ≤ times (entry_of m) (flat_map block_ids_of s.intervals)
    at true is = section_times (entry_of m) s.intervals is
    at false is = omega arith

nested : (test : Block → Bool) (is : List Interval) → list_any test (blocks_of is) ≡ list_any (λ (i : Interval). list_any test i.blocks) is
nested test [] = refl
nested test (i ∷ is) = list_any-append test i.blocks (blocks_of is) ∙ ap (λ x. list_any test i.blocks || x) (nested test is)

entry_among : (m : Module) (ss : List Section) → list_any (has_id (entry_of m)) (blocks_of (intervals_of ss)) ≡ true → 1 ≤ extra m ss 1
entry_among m [] h = absurd (false≢true h)
entry_among m (s ∷ ss) h =
    at (has_entry m s) (λ k. entry_among m ss k)
    (sym (ap (list_any (has_id (entry_of m))) (flat_map-append (λ (i : Interval). i.blocks) s.intervals (intervals_of ss)) ∙ list_any-append (has_id (entry_of m)) (blocks_of s.intervals) (blocks_of (intervals_of ss)) ∙ ap (λ x. x || list_any (has_id (entry_of m)) (blocks_of (intervals_of ss))) (nested (has_id (entry_of m)) s.intervals)) ∙ h)
  where
    at : (x : Bool) → (list_any (has_id (entry_of m)) (blocks_of (intervals_of ss)) ≡ true → 1 ≤ extra m ss 1) → (x || list_any (has_id (entry_of m)) (blocks_of (intervals_of ss))) ≡ true → 1 ≤ (if x then 1 else 0) + extra m ss 1
    at true rest k = omega arith
    at false rest k = let some = rest k in omega (arith, some)

-- a section has the entry
pub entered_once : (m : Module) → is_entered m ≡ true → 1 ≤ extra m (loaded_sections m) 1
entered_once m h = entry_among m (loaded_sections m) (at m.entry h)
  where
    at : (o : Option (List ℕ)) → option_map_or (have_block (loaded_intervals m)) o false ≡ true → list_any (has_id (unwrap_or o [])) (blocks_of (loaded_intervals m)) ≡ true
    at None k = absurd (false≢true k)
    at (Some id) k = k
