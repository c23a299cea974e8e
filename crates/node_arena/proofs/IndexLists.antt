-- Lists of identifiers without repeats, and look-ups in lists of entries.
use Rattle.std.proofs.Common.{◌≡◌, ℕ, ◌+◌, ◌<◌, length, get_or, take, drop, Bool, true, false, ◌||◌, List, [], ◌∷◌, ◌++◌, map, Option, Some, None, refl, sym, ap, ◌∙◌, add-one}
use Rattle.std.specs.Prelude.{if◌then◌else◌}
use Rattle.std.specs.List.{list_any}
use Rattle.std.specs.Map.{lookup}
use Rattle.std.specs.Str.{bytes_eq}
use Rattle.std.proofs.Math.Seq.{drop-cons}
use Rattle.std.proofs.lemmas.List.{map-append, take-append-drop}
use Rattle.std.specs.Prelude.{is_some}
use Rattle.indexmap.proofs.CallerLemmas.{insert_entry-new}
use Rattle.indexmap.specs.IndexMap.{get, insert_entry}
use Rattle.gt_model.specs.Linked.{repeated}
use Rattle.node_arena.specs.declared.ids.NodeRef.{NodeRef}
use Rattle.node_arena.specs.Arenas.{Arenas}
use Rattle.node_arena.specs.Sound.{ref_id}
use Rattle.node_arena.specs.Stored.{Index, entry_of}

or-false : (a b : Bool) → (a || b) ≡ false → (a ≡ false) × (b ≡ false)
or-false true b h = absurd (cc)
or-false false b h = (refl, h)

some-none : {A : Type 0} (x : A) → Some x ≡ None → ⊥
some-none x h = cc

-- of a choice that is nothing
chosen-none : (b : Bool) (x : List ℕ) (o : Option (List ℕ)) → (if b then Some x else o) ≡ None → (b ≡ false) × (o ≡ None)
chosen-none true x o h = absurd (some-none x h)
chosen-none false x o h = (refl, h)

-- one more identifier, which is new
pub repeated-fresh : (earlier xs : List (List ℕ)) (u : List ℕ) → repeated earlier xs ≡ None → list_any (bytes_eq u) earlier ≡ false
    → list_any (bytes_eq u) xs ≡ false → repeated earlier (xs ++ u ∷ []) ≡ None
repeated-fresh earlier [] u h e f = rw e refl
repeated-fresh earlier (x ∷ xs) u h e f =
    let first = chosen-none (list_any (bytes_eq x) earlier) x (repeated (x ∷ earlier) xs) h in
    let apart = or-false (bytes_eq u x) (list_any (bytes_eq u) xs) f in
    rw first.0 (repeated-fresh (x ∷ earlier) xs u first.1 (rw apart.0 e) apart.1)

-- and one that isn't, whatever comes after it
pub repeated-held : (earlier xs ys : List (List ℕ)) (u : List ℕ) → repeated earlier xs ≡ None → (list_any (bytes_eq u) xs || list_any (bytes_eq u) earlier) ≡ true
    → repeated earlier (xs ++ u ∷ ys) ≡ Some u
repeated-held earlier [] ys u h f = rw f refl
repeated-held earlier (x ∷ xs) ys u h f =
    let first = chosen-none (list_any (bytes_eq x) earlier) x (repeated (x ∷ earlier) xs) h in
    rw first.0 (repeated-held (x ∷ earlier) xs ys u first.1 (or-moved (bytes_eq u x) (list_any (bytes_eq u) xs) (list_any (bytes_eq u) earlier) f))
  where
    or-moved : (a b c : Bool) → ((a || b) || c) ≡ true → (b || (a || c)) ≡ true
    or-moved true true c h = refl
    or-moved true false c h = refl
    or-moved false true c h = refl
    or-moved false false c h = h

-- a look-up finds a key exactly where the key is among those of the entries
pub lookup-none : {A X : Type 0} (key : A → List ℕ) (value : A → X) (u : List ℕ) (xs : List A) → lookup (bytes_eq u) (map (λ x. (key x, value x)) xs) ≡ None
    → list_any (bytes_eq u) (map key xs) ≡ false
lookup-none key value u [] h = refl
lookup-none key value u (x ∷ xs) h = by (bytes_eq u (key x)) refl (lookup-none key value u xs)
  where
    by : (b : Bool) → bytes_eq u (key x) ≡ b → (lookup (bytes_eq u) (map (λ y. (key y, value y)) xs) ≡ None → list_any (bytes_eq u) (map key xs) ≡ false)
        → (bytes_eq u (key x) || list_any (bytes_eq u) (map key xs)) ≡ false
    by true e rest = absurd (some-none (value x) (rw e at h))
    by false e rest = rw e (rest (rw e at h))

pub lookup-some : {A X : Type 0} (key : A → List ℕ) (value : A → X) (u : List ℕ) (v : X) (xs : List A) → lookup (bytes_eq u) (map (λ x. (key x, value x)) xs) ≡ Some v
    → list_any (bytes_eq u) (map key xs) ≡ true
lookup-some key value u v [] h = absurd (cc)
lookup-some key value u v (x ∷ xs) h = by (bytes_eq u (key x)) refl (lookup-some key value u v xs)
  where
    by : (b : Bool) → bytes_eq u (key x) ≡ b → (lookup (bytes_eq u) (map (λ y. (key y, value y)) xs) ≡ Some v → list_any (bytes_eq u) (map key xs) ≡ true)
        → (bytes_eq u (key x) || list_any (bytes_eq u) (map key xs)) ≡ true
    by true e rest = rw e refl
    by false e rest = rw e (rest (rw e at h))

is_none_of : {A : Type 0} (o : Option A) → is_some o ≡ false → o ≡ None
is_none_of None h = refl
is_none_of (Some x) h = absurd (cc)

is_some_of : {A : Type 0} (o : Option A) → is_some o ≡ true → (x : A) × (o ≡ Some x)
is_some_of None h = absurd (cc)
is_some_of (Some x) h = (x, refl)

module _ (g : Arenas) (xs : List NodeRef) (index : Index) (r : NodeRef) (u : List ℕ) (old : Option NodeRef)
    (entries : index.entries ≡ map (entry_of g) xs) (names : u ≡ ref_id g r) (found : old ≡ get bytes_eq index u) where
  -- a node whose identifier is new
  pub entries-new : (new : Index) → is_some old ≡ false → new.entries ≡ insert_entry bytes_eq index.entries u r → new.entries ≡ map (entry_of g) (xs ++ r ∷ [])
  entries-new new none e =
      e ∙ insert_entry-new bytes_eq index u r (sym found ∙ is_none_of old none) ∙ (λ i. entries i ++ (names i, r) ∷ []) ∙ sym (map-append (entry_of g) xs (r ∷ []))

  pub distinct-new : is_some old ≡ false → repeated [] (map (ref_id g) xs) ≡ None → repeated [] (map (ref_id g) (xs ++ r ∷ [])) ≡ None
  distinct-new none h =
      let absent = lookup-none (ref_id g) (λ (x : NodeRef). x) u xs (sym (ap (lookup (bytes_eq u)) entries) ∙ sym found ∙ is_none_of old none) in
      ap (repeated []) (map-append (ref_id g) xs (r ∷ []) ∙ ap (λ l. map (ref_id g) xs ++ l ∷ []) (sym names)) ∙ repeated-fresh [] (map (ref_id g) xs) u h refl absent

  -- a node whose identifier is held
  pub distinct-held : (ys : List NodeRef) → is_some old ≡ true → repeated [] (map (ref_id g) xs) ≡ None → repeated [] (map (ref_id g) (xs ++ r ∷ ys)) ≡ Some u
  distinct-held ys some h =
      let was = is_some_of old some in
      let there = lookup-some (ref_id g) (λ (x : NodeRef). x) u was.0 xs (sym (ap (lookup (bytes_eq u)) entries) ∙ sym found ∙ was.1) in
      ap (repeated []) (map-append (ref_id g) xs (r ∷ ys) ∙ ap (λ l. map (ref_id g) xs ++ l ∷ map (ref_id g) ys) (sym names))
      ∙ repeated-held [] (map (ref_id g) xs) (map (ref_id g) ys) u h (rw there refl)

-- a list, around its element at a place
pub around : {A : Type 0} (xs : List A) (k : ℕ) (d : A) → k < length xs → xs ≡ take k xs ++ get_or xs k d ∷ drop (k + 1) xs
around xs k d h =
    sym (take-append-drop k xs) ∙ ap (λ l. take k xs ++ l) (drop-cons xs k d h) ∙ ap (λ n. take k xs ++ get_or xs k d ∷ drop n xs) (sym (add-one k))
