-- One more child in the list of a parent.
use Rattle.std.proofs.Common.{◌≡◌, ◌≢◌, ℕ, zero, suc, ◌+◌, ◌-◌, ◌<◌, ◌≤◌, Bool, true, false, eqb, ◌⊎◌, Option, Some, None, List, [], ◌∷◌, ◌++◌, length, get_or, take, drop, map, refl, sym, ap, ◌∙◌, subst, inl, inr, arith}
use Rattle.std.specs.Prelude.{Contains, AllPairs, insert, if◌then◌else◌}
use Rattle.std.proofs.lemmas.Bool.{cases_lt, cases_eq}
use Rattle.std.proofs.lemmas.List.{length-map, get_or-map, map-append, take-map, drop-map, take-append-drop}
use Rattle.std.proofs.lemmas.List.Edits.{length-insert, get_or-insert_below, get_or-insert_at, get_or-insert_above, insert_end}
use Rattle.std.proofs.lemmas.List.Elements.{Contains-append_cases, Contains-append_left, Contains-append_right, Contains-push_cases, Contains-get_or}
use Rattle.node_arena.specs.declared.ids.BlockId.{BlockId}
use Rattle.node_arena.specs.Changes.{placed_after}
use Rattle.node_arena.specs.Sound.{Children}
use Rattle.node_arena.proofs.Grown.{Joins}
use Rattle.node_arena.proofs.Lists.{In-head}

-- the children of a parent are nodes, and differ
pub children_below : {N M : Type 0} (kids : N → List ℕ) (parent : M → ℕ) (ns : List N) (d : N) (ms : List M) (p : ℕ) → Children (map kids ns) (map parent ms) → p < length ns
    → (c : ℕ) → Contains (kids (get_or ns p d)) c → c < length ms
children_below kids parent ns d ms p t within c h =
    let inside : p < length (map kids ns) = rw length-map within in
    let at : get_or (map kids ns) p [] ≡ kids (get_or ns p d) = get_or-map kids ns p d [] within in
    let l : c < length (map parent ms) = (t.listed p c inside (subst (λ (xs : List ℕ). Contains xs c) (sym at) h)).0 in
    rw length-map at l

pub children_apart : {N M : Type 0} (kids : N → List ℕ) (parent : M → ℕ) (ns : List N) (d : N) (ms : List M) (p : ℕ) → Children (map kids ns) (map parent ms) → p < length ns
    → AllPairs (λ a b. a ≢ b) (kids (get_or ns p d))
children_apart kids parent ns d ms p t within =
    let inside : p < length (map kids ns) = rw length-map within in
    let at : get_or (map kids ns) p [] ≡ kids (get_or ns p d) = get_or-map kids ns p d [] within in
    subst (λ (xs : List ℕ). AllPairs (λ a b. a ≢ b) xs) at (t.once p inside)

-- a number above all others, put anywhere
module _ (xs : List ℕ) (n k : ℕ) (place : n ≤ length xs) (below : (c : ℕ) → Contains xs c → c < k) (apart : AllPairs (λ a b. a ≢ b) xs) where
  inserted_from : (c : ℕ) → Contains (insert xs n k) c → Contains xs c ⊎ ((k ≤ c) × (c < k + 1))
  inserted_from c h = elim (Contains-append_cases (take n xs) (k ∷ drop n xs) c h) [
    | inl a ↦ inl (subst (λ (ys : List ℕ). Contains ys c) (take-append-drop n xs) (Contains-append_left (take n xs) (drop n xs) c a))
    | inr b ↦ elim (Contains-append_cases (k ∷ []) (drop n xs) c b) [
      | inl one ↦ elim (Contains-push_cases [] k c one) [ inl never ↦ absurd (omega (arith, never.1)) | inr same ↦ inr (omega arith, omega arith) ]
      | inr r ↦ inl (subst (λ (ys : List ℕ). Contains ys c) (take-append-drop n xs) (Contains-append_right (take n xs) (drop n xs) c r))
    ]
  ]

  inserted_kept : (c : ℕ) → Contains xs c → Contains (insert xs n k) c
  inserted_kept c h =
      let parts : Contains (take n xs ++ drop n xs) c = subst (λ (ys : List ℕ). Contains ys c) (sym (take-append-drop n xs)) h in
      elim (Contains-append_cases (take n xs) (drop n xs) c parts) [
        | inl a ↦ Contains-append_left (take n xs) (k ∷ drop n xs) c a
        | inr b ↦ Contains-append_right (take n xs) (k ∷ drop n xs) c (Contains-append_right (k ∷ []) (drop n xs) c b)
      ]

  inserted_new : (c : ℕ) → k ≤ c → c < k + 1 → Contains (insert xs n k) c
  inserted_new c l u =
      let same : k ≡ c = omega arith in
      subst (λ (m : ℕ). Contains (insert xs n k) m) same (Contains-append_right (take n xs) (k ∷ drop n xs) k (In-head k (drop n xs)))

  fresh : (i : ℕ) (d : ℕ) → i < length xs → get_or xs i d ≡ k → ⊥
  fresh i d l e = let b = below (get_or xs i d) (Contains-get_or xs i d l) in absurd (omega arith)

  above_at : (j d : ℕ) → n < j → get_or (insert xs n k) j d ≡ get_or xs (j - 1) d
  above_at j d l =
      let e : j - 1 + 1 ≡ j = omega arith in
      subst (λ (q : ℕ). get_or (insert xs n k) q d ≡ get_or xs (j - 1) d) e (get_or-insert_above xs n k d (j - 1) (omega arith) place)

  new_at : (j d : ℕ) → j ≡ n → get_or (insert xs n k) j d ≡ k
  new_at j d e = subst (λ (q : ℕ). get_or (insert xs n k) q d ≡ k) (sym e) (get_or-insert_at xs n k d place)

  inserted_apart : AllPairs (λ a b. a ≢ b) (insert xs n k)
  inserted_apart i j d l m e =
      let len : j < length xs + 1 = subst (λ (q : ℕ). j < q) (length-insert xs n k place) m in
      elim (cases_lt j n) [
        | inl low ↦ apart i j d l (omega arith) (sym (get_or-insert_below xs n k d i (omega arith) place) ∙ e ∙ get_or-insert_below xs n k d j low place)
        | inr high ↦ elim (cases_eq j n) [
          | inl at ↦ fresh i d (omega arith) (sym (get_or-insert_below xs n k d i (omega arith) place) ∙ e ∙ new_at j d at)
          | inr past ↦
              let over : n < j = omega arith in
              elim (cases_lt i n) [
                | inl low ↦ apart i (j - 1) d (omega arith) (omega arith) (sym (get_or-insert_below xs n k d i low place) ∙ e ∙ above_at j d over)
                | inr from ↦ elim (cases_eq i n) [
                  | inl at ↦ fresh (j - 1) d (omega arith) (sym (above_at j d over) ∙ sym e ∙ new_at i d at)
                  | inr too ↦ apart (i - 1) (j - 1) d (omega arith) (omega arith) (sym (above_at i d (omega arith)) ∙ e ∙ above_at j d over)
                ]
              ]
        ]
      ]

  pub joins_insert : Joins xs (insert xs n k) k 1
  joins_insert = record { from = inserted_from; kept = inserted_kept; added = inserted_new; apart = inserted_apart }

pub joins_last : (xs : List ℕ) (k : ℕ) → ((c : ℕ) → Contains xs c → c < k) → AllPairs (λ a b. a ≢ b) xs → Joins xs (xs ++ k ∷ []) k 1
joins_last xs k below apart = subst (λ (ys : List ℕ). Joins xs ys k 1) (insert_end xs k) (joins_insert xs (length xs) k (omega arith) below apart)

-- where an identifier is put
pub place_of : (ids : List BlockId) (after : Option BlockId) → (n : ℕ) × (n ≤ length ids) × ((id : BlockId) → placed_after ids after id ≡ insert ids n id)
place_of [] after = (0, omega arith, λ id. refl)
place_of (b ∷ bs) None = let r = place_of bs None in (suc r.0, omega (arith, r.1), λ id. ap (λ (l : List BlockId). b ∷ l) (r.2 id))
place_of (b ∷ bs) (Some a) = by (eqb b.index a.index) refl (place_of bs (Some a))
  where
    by : (t : Bool) → eqb b.index a.index ≡ t → ((n : ℕ) × (n ≤ length bs) × ((id : BlockId) → placed_after bs (Some a) id ≡ insert bs n id))
        → (n : ℕ) × (n ≤ length (b ∷ bs)) × ((id : BlockId) → placed_after (b ∷ bs) (Some a) id ≡ insert (b ∷ bs) n id)
    by true e r = (1, omega arith, λ id. ap (λ (t : Bool). if t then b ∷ id ∷ bs else b ∷ placed_after bs (Some a) id) e)
    by false e r = (
      suc r.0,
      omega (arith, r.1),
      λ id. ap (λ (t : Bool). if t then b ∷ id ∷ bs else b ∷ placed_after bs (Some a) id) e ∙ ap (λ (l : List BlockId). b ∷ l) (r.2 id),
    )

pub map-insert : {A B : Type 0} (f : A → B) (xs : List A) (n : ℕ) (y : A) → map f (insert xs n y) ≡ insert (map f xs) n (f y)
map-insert f xs n y =
    map-append f (take n xs) (y ∷ drop n xs)
    ∙ (λ i. sym (take-map f n xs) i ++ f y ∷ sym (drop-map f n xs) i)
