-- The first interval with a bare block, list by list.
use Rattle.std.proofs.Common.{◌≡◌, ℕ, ◌+◌, ◌<◌, Bool, true, false, cond, List, [], ◌∷◌, ◌++◌, length, get_or, take, drop, Some, None, refl, sym, ap, ◌∙◌, append-nil}
use Rattle.std.specs.Prelude.{find}
use Rattle.std.specs.List.{flat_map, list_any}
use Rattle.std.specs.Option.{option_map, option_or}
use Rattle.std.proofs.lemmas.List.{take_more}
use Rattle.std.proofs.lemmas.List.Concat.{flat_map-append}
use Rattle.gt_model.specs.declared.intervals.Interval.{Interval}
use Rattle.gt_model.specs.Linked.{is_bare}
use Rattle.node_arena.specs.Checking.{bare_id}
use Rattle.node_arena.proofs.IndexLists.{around}

bare-append : (xs ys : List Interval) → bare_id (xs ++ ys) ≡ option_or (bare_id xs) (bare_id ys)
bare-append [] ys = refl
bare-append (x ∷ xs) ys = by (list_any is_bare x.blocks) (bare-append xs ys)
  where
    by : (b : Bool) → bare_id (xs ++ ys) ≡ option_or (bare_id xs) (bare_id ys)
        → option_map (λ (i : Interval). i.uuid) (cond b (Some x) (find (λ (i : Interval). list_any is_bare i.blocks) (xs ++ ys)))
        ≡ option_or (option_map (λ (i : Interval). i.uuid) (cond b (Some x) (find (λ (i : Interval). list_any is_bare i.blocks) xs))) (bare_id ys)
    by true h = refl
    by false h = h

one-bare : (x : Interval) → list_any is_bare x.blocks ≡ true → bare_id (x ∷ []) ≡ Some x.uuid
one-bare x h = rw h refl

one-solid : (x : Interval) → list_any is_bare x.blocks ≡ false → bare_id (x ∷ []) ≡ None
one-solid x h = rw h refl

module _ (xs : List Interval) (k : ℕ) (x : Interval) (within : k < length xs) (item : x ≡ get_or xs k x) (none : bare_id (take k xs) ≡ None) where
  pub interval-solid : list_any is_bare x.blocks ≡ false → bare_id (take (k + 1) xs) ≡ None
  interval-solid h =
      ap bare_id (take_more xs k x within ∙ ap (λ y. take k xs ++ y ∷ []) (sym item)) ∙ bare-append (take k xs) (x ∷ []) ∙ (λ i. option_or (none i) (one-solid x h i))

  pub interval-bare : list_any is_bare x.blocks ≡ true → Some x.uuid ≡ bare_id xs
  interval-bare h =
      sym (ap bare_id (around xs k x within ∙ ap (λ y. take k xs ++ y ∷ drop (k + 1) xs) (sym item)) ∙ bare-append (take k xs) (x ∷ drop (k + 1) xs)
      ∙ (λ i. option_or (none i) (bare-append (x ∷ []) (drop (k + 1) xs) i)) ∙ ap (λ o. option_or o (bare_id (drop (k + 1) xs))) (one-bare x h))

module _ {X : Type 0} (f : X → List Interval) (xs : List X) (k : ℕ) (x : X) (within : k < length xs) (item : x ≡ get_or xs k x) (none : bare_id (flat_map f (take k xs)) ≡ None) where
  pub part-solid : bare_id (f x) ≡ None → bare_id (flat_map f (take (k + 1) xs)) ≡ None
  part-solid h =
      ap (λ l. bare_id (flat_map f l)) (take_more xs k x within ∙ ap (λ y. take k xs ++ y ∷ []) (sym item))
      ∙ ap bare_id (flat_map-append f (take k xs) (x ∷ []) ∙ ap (λ l. flat_map f (take k xs) ++ l) (append-nil (f x)))
      ∙ bare-append (flat_map f (take k xs)) (f x) ∙ (λ i. option_or (none i) (h i))

  pub part-bare : (id : List ℕ) → bare_id (f x) ≡ Some id → Some id ≡ bare_id (flat_map f xs)
  part-bare id h =
      sym (ap (λ l. bare_id (flat_map f l)) (around xs k x within ∙ ap (λ y. take k xs ++ y ∷ drop (k + 1) xs) (sym item))
      ∙ ap bare_id (flat_map-append f (take k xs) (x ∷ drop (k + 1) xs))
      ∙ bare-append (flat_map f (take k xs)) (f x ++ flat_map f (drop (k + 1) xs))
      ∙ (λ i. option_or (none i) (bare-append (f x) (flat_map f (drop (k + 1) xs)) i)) ∙ ap (λ o. option_or o (bare_id (flat_map f (drop (k + 1) xs)))) h)
