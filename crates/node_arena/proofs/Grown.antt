-- More children of one parent, and an index that finds one more node.
use Rattle.std.proofs.Common.{◌≡◌, ◌≢◌, ℕ, ◌+◌, ◌-◌, ◌<◌, ◌≤◌, Bool, true, false, ◌⊎◌, List, [], ◌∷◌, ◌++◌, length, get_or, set, map, replicate, Option, Some, None, refl, sym, ap, ◌∙◌, subst, inl, inr, arith}
use Rattle.std.specs.Prelude.{Contains, AllPairs}
use Rattle.std.specs.Str.{bytes_eq}
use Rattle.std.proofs.lemmas.Bool.{cases_lt, cases_eq}
use Rattle.std.proofs.lemmas.List.{length-map, length-set, length-append, length-replicate, get_or_append_left, get_or-append_right, get_or-replicate, get_or-map, get_or-set_same, get_or-set_other, map-append, map-set}
use Rattle.std.proofs.lemmas.Slice.Eq.{bytes_eq-Decides}
use Rattle.node_arena.specs.declared.ids.NodeRef.{NodeRef}
use Rattle.node_arena.specs.Arenas.{Arenas}
use Rattle.node_arena.specs.Sound.{Children, Live, Finds, ref_id}
use Rattle.node_arena.proofs.Kept.{Extends, kept_live, kept_id}

-- the list of a parent with new children, whose places come after all others
pub record Joins (old new : List ℕ) (first count : ℕ) : Type 0 where
  pub from : (c : ℕ) → Contains new c → Contains old c ⊎ ((first ≤ c) × (c < first + count))
  pub kept : (c : ℕ) → Contains old c → Contains new c
  pub added : (c : ℕ) → first ≤ c → c < first + count → Contains new c
  pub apart : AllPairs (λ a b. a ≢ b) new

module _ (lists : List (List ℕ)) (parents : List ℕ) (p count : ℕ) (new : List ℕ) (t : Children lists parents) (within : p < length lists)
    (j : Joins (get_or lists p []) new (length parents) count) where
  all_parents : List ℕ
  all_parents = parents ++ replicate count p

  length-all : length all_parents ≡ length parents + count
  unfolding all_parents
  length-all = length-append parents (replicate count p) ∙ ap (λ (k : ℕ). length parents + k) (length-replicate count p)

  parent-old : (c : ℕ) → c < length parents → get_or all_parents c 0 ≡ get_or parents c 0
  unfolding all_parents
  parent-old c l = get_or_append_left parents (replicate count p) 0 c l

  parent-new : (c : ℕ) → length parents ≤ c → c < length parents + count → get_or all_parents c 0 ≡ p
  unfolding all_parents
  parent-new c l u =
      get_or-append_right parents (replicate count p) (length parents) c 0 refl l
      ∙ get_or-replicate count (c - length parents) p 0 (omega arith)

  list-at : get_or (set lists p new) p [] ≡ new
  list-at = get_or-set_same lists p new [] within

  list-other : (q : ℕ) → q ≢ p → get_or (set lists p new) q [] ≡ get_or lists q []
  list-other q n = get_or-set_other lists p q new [] n

  listed-all : (q c : ℕ) → q < length (set lists p new) → Contains (get_or (set lists p new) q []) c → (c < length all_parents) × (get_or all_parents c 0 ≡ q)
  listed-all q c l h =
      let l' : q < length lists = rw length-set at l in
      elim (cases_eq q p) [
        | inl same ↦
            let there : Contains new c = subst (λ (xs : List ℕ). Contains xs c) (ap (λ (k : ℕ). get_or (set lists p new) k []) same ∙ list-at) h in
            elim (j.from c there) [
              | inl old ↦
                  let was = t.listed p c within old in
                  (rw length-all (omega (arith, was.0)), parent-old c was.0 ∙ was.1 ∙ sym same)
              | inr added ↦ (rw length-all added.1, parent-new c added.0 added.1 ∙ sym same)
            ]
        | inr other ↦
            let was = t.listed q c l' (subst (λ (xs : List ℕ). Contains xs c) (list-other q other) h) in
            (rw length-all (omega (arith, was.0)), parent-old c was.0 ∙ was.1)
      ]

  owned-all : (c : ℕ) → c < length all_parents
      → (get_or all_parents c 0 < length (set lists p new)) × Contains (get_or (set lists p new) (get_or all_parents c 0) []) c
  owned-all c l = elim (cases_lt c (length parents)) [
    | inl old ↦
        let was = t.owned c old in
        let q = get_or parents c 0 in
        rw (parent-old c old) (
          rw length-set was.0,
          elim (cases_eq q p) [
            | inl same ↦
                subst (λ (k : ℕ). Contains (get_or (set lists p new) k []) c) (sym same)
                (subst (λ (xs : List ℕ). Contains xs c) (sym list-at) (j.kept c (subst (λ (k : ℕ). Contains (get_or lists k []) c) same was.1)))
            | inr other ↦ subst (λ (xs : List ℕ). Contains xs c) (sym (list-other q other)) was.1
          ],
        )
    | inr added ↦
        let u : c < length parents + count = rw length-all at l in
        rw (parent-new c added u) (rw length-set within, subst (λ (xs : List ℕ). Contains xs c) (sym list-at) (j.added c added u))
  ]

  once-all : (q : ℕ) → q < length (set lists p new) → AllPairs (λ a b. a ≢ b) (get_or (set lists p new) q [])
  once-all q l =
      let l' : q < length lists = rw length-set at l in
      elim (cases_eq q p) [
        | inl same ↦ subst (λ (xs : List ℕ). AllPairs (λ a b. a ≢ b) xs) (sym (ap (λ (k : ℕ). get_or (set lists p new) k []) same ∙ list-at)) j.apart
        | inr other ↦ subst (λ (xs : List ℕ). AllPairs (λ a b. a ≢ b) xs) (sym (list-other q other)) (t.once q l')
      ]

  pub Children-joined : Children (set lists p new) (parents ++ replicate count p)
  unfolding all_parents
  Children-joined = record { listed = listed-all; owned = owned-all; once = once-all }

-- the same of the nodes of parents and children
pub tree_joined : {N M : Type 0} (kids : N → List ℕ) (parent : M → ℕ) (ns : List N) (d : N) (ms more : List M) (p count : ℕ) (n : N)
    → Children (map kids ns) (map parent ms) → p < length ns → Joins (kids (get_or ns p d)) (kids n) (length ms) count → map parent more ≡ replicate count p
    → Children (map kids (set ns p n)) (map parent (ms ++ more))
tree_joined kids parent ns d ms more p count n t within j parents =
    let len : length (map parent ms) ≡ length ms = length-map ms parent in
    let inside : p < length (map kids ns) = rw length-map within in
    let old : get_or (map kids ns) p [] ≡ kids (get_or ns p d) = get_or-map kids ns p d [] within in
    let joins : Joins (get_or (map kids ns) p []) (kids n) (length (map parent ms)) count =
    subst (λ (k : ℕ). Joins (get_or (map kids ns) p []) (kids n) k count) (sym len) (subst (λ (xs : List ℕ). Joins xs (kids n) (length ms) count) (sym old) j) in
    let done = Children-joined (map kids ns) (map parent ms) p count (kids n) t inside joins in
    subst (λ (ls : List (List ℕ)). Children ls (map parent (ms ++ more))) (sym (map-set kids ns p n))
    (subst (λ (ps : List ℕ). Children (set (map kids ns) p (kids n)) ps) (sym (map-append parent ms more ∙ ap (λ (ps : List ℕ). map parent ms ++ ps) parents)) done)

some-one : {A : Type 0} (x : A) → Some x ≡ None → ⊥
some-one x h = cc

-- an index that finds one more node
pub finds_more : (g h : Arenas) (found now : List ℕ → Option NodeRef) (r : NodeRef) (u : List ℕ) → Extends g h → Finds g found → found u ≡ None
    → ((x : NodeRef) → Live h x → Live g x ⊎ (x ≡ r)) → Live h r → ref_id h r ≡ u
    → now u ≡ Some r → ((id : List ℕ) → bytes_eq u id ≡ false → now id ≡ found id) → Finds h now
finds_more g h found now r u e f none only live named hit miss = record {
  named = λ x l. elim (only x l) [
    | inl old ↦ by_old x old (bytes_eq u (ref_id g x)) refl
    | inr same ↦ subst (λ (y : NodeRef). now (ref_id h y) ≡ Some y) (sym same) (ap now named ∙ hit)
  ];
  held = λ id x q. by_id id x q (bytes_eq u id) refl;
}
  where
    by_old : (x : NodeRef) → Live g x → (b : Bool) → bytes_eq u (ref_id g x) ≡ b → now (ref_id h x) ≡ Some x
    by_old x old true q =
        let same : u ≡ ref_id g x = (bytes_eq-Decides u (ref_id g x)).0 q in
        absurd (some-one x (sym (f.named x old) ∙ sym (ap found same) ∙ none))
    by_old x old false q = ap now (kept_id g h e x old) ∙ miss (ref_id g x) q ∙ f.named x old

    by_id : (id : List ℕ) (x : NodeRef) → now id ≡ Some x → (b : Bool) → bytes_eq u id ≡ b → Live h x × (ref_id h x ≡ id)
    by_id id x q true t =
        let same : u ≡ id = (bytes_eq-Decides u id).0 t in
        let one : Some r ≡ Some x = sym hit ∙ ap now same ∙ q in
        let is : r ≡ x = cc in
        (subst (Live h) is live, ap (ref_id h) (sym is) ∙ named ∙ same)
    by_id id x q false t =
        let was = f.held id x (sym (miss id t) ∙ q) in
        (kept_live g h e x was.0, kept_id g h e x was.0 ∙ was.1)
