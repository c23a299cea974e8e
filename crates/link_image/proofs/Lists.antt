-- Lists: what holds of all, what a search finds, what counts.
use Rattle.std.proofs.Common.{◌≡◌, ℕ, zero, suc, ◌+◌, ◌-◌, ◌<◌, ◌≤◌, Bool, true, false, Some, List, [], ◌∷◌, ◌++◌, length, get_or, drop, filter, find, map, refl, sym, ap, subst, ◌∙◌, inl, inr, arith, add-one}
use Rattle.std.specs.List.{AllByRecursion, AllPairs, flat_map}
use Rattle.std.proofs.lemmas.Bool.{cond-true, cond-false, cases_Bool}
use Rattle.std.proofs.lemmas.List.Elements.{recursion_from_All}
use Rattle.std.proofs.lemmas.Grind.{flat_map-append}
use Rattle.std.proofs.Math.Seq.{drop-cons}

module _ {X : Type 0} where
  abbrev pub Pairs : (X → X → Type 0) → List X → Type 0
  Pairs R [] = Unit {0}
  Pairs R (x ∷ xs) = AllByRecursion (R x) xs × Pairs R xs

  pub pairs_from : (R : X → X → Type 0) (xs : List X) → AllPairs R xs → Pairs R xs
  pairs_from R [] h = tt
  pairs_from R (x ∷ xs) h = (
    recursion_from_All (R x) xs (λ j d lt. h zero (suc j) d (omega arith) (omega arith)),
    pairs_from R xs (λ i j d lt within. h (suc i) (suc j) d (omega arith) (omega arith)),
  )

  pub all_through : (P Q : X → Type 0) → ((x : X) → P x → Q x) → (xs : List X) → AllByRecursion P xs → AllByRecursion Q xs
  all_through P Q f [] all = tt
  all_through P Q f (x ∷ xs) all = (f x all.0, all_through P Q f xs all.1)

  pub all_parts : (P : X → Type 0) (xs ys : List X) → AllByRecursion P (xs ++ ys) → AllByRecursion P xs × AllByRecursion P ys
  all_parts P [] ys all = (tt, all)
  all_parts P (x ∷ xs) ys all = let rest = all_parts P xs ys all.1 in ((all.0, rest.0), rest.1)

  pub all_append : (P : X → Type 0) (xs ys : List X) → AllByRecursion P xs → AllByRecursion P ys → AllByRecursion P (xs ++ ys)
  all_append P [] ys left right = right
  all_append P (x ∷ xs) ys left right = (left.0, all_append P xs ys left.1 right)

  -- what a search finds passes, and has what all have
  pub found_has : (P : X → Type 0) (test : X → Bool) (xs : List X) (x : X) → AllByRecursion P xs → find test xs ≡ Some x → P x
  found_has P test [] x all e = cc
  found_has P test (y ∷ ys) x all e =
      elim (cases_Bool (test y)) [
        | inl passes ↦ let same = sym (cond-true (test y) (Some y) (find test ys) passes) ∙ e in let one : y ≡ x = cc in subst P one all.0
        | inr fails ↦ found_has P test ys x all.1 (sym (cond-false (test y) (Some y) (find test ys) fails) ∙ e)
      ]

  -- how many pass where those that do stand in front
  pub count_front : (test : X → Bool) (xs : List X) (i : ℕ) → i ≤ length xs → ((k : ℕ) (d : X) → k < i → test (get_or xs k d) ≡ true) → ((k : ℕ) (d : X) → i ≤ k → k < length xs → test (get_or xs k d) ≡ false)
      → length (filter test xs) ≡ i
  count_front test [] i le front rest = omega arith
  count_front test (x ∷ xs) zero le front rest =
      ap length (cond-false (test x) (x ∷ filter test xs) (filter test xs) (rest zero x (omega arith) (omega arith)))
      ∙ count_front test xs zero (omega arith) (λ k d lt. absurd (omega arith)) (λ k d le lt. rest (suc k) d (omega arith) (omega arith))
  count_front test (x ∷ xs) (suc i) le front rest =
      ap length (cond-true (test x) (x ∷ filter test xs) (filter test xs) (front zero x (omega arith)))
      ∙ ap suc (count_front test xs i (omega arith) (λ k d lt. front (suc k) d (omega arith)) (λ k d le lt. rest (suc k) d (omega arith) (omega arith)))

  -- the element at i and those behind it
  pub dropped : (xs : List X) (i : ℕ) (x : X) → i < length xs → x ≡ get_or xs i x → drop i xs ≡ x ∷ drop (i + 1) xs
  dropped xs i x lt is = drop-cons xs i x lt ∙ ap (λ y. y ∷ drop (suc i) xs) (sym is) ∙ ap (λ n. x ∷ drop n xs) (sym (add-one i))

  -- the element before i and those behind it
  pub split_before : (xs : List X) (i : ℕ) (x : X) → 0 < i → i ≤ length xs → x ≡ get_or xs (i - 1) x → drop (i - 1) xs ≡ x ∷ drop i xs
  split_before xs i x some within is =
      let next : i - 1 + 1 ≡ i = omega arith in
      dropped xs (i - 1) x (omega arith) is ∙ ap (λ n. x ∷ drop n xs) next

  -- what holds of all holds of those behind
  pub all_dropped : (P : X → Type 0) (xs : List X) (i : ℕ) → AllByRecursion P xs → AllByRecursion P (drop i xs)
  all_dropped P xs zero all = all
  all_dropped P [] (suc i) all = tt
  all_dropped P (x ∷ xs) (suc i) all = all_dropped P xs i all.1

  pub at_item : (P : X → Type 0) (xs : List X) (i : ℕ) (x : X) → i < length xs → x ≡ get_or xs i x → AllByRecursion P xs → P x
  at_item P xs i x lt is all = (subst (AllByRecursion P) (dropped xs i x lt is) (all_dropped P xs i all)).0

pub flat_map-flat_map : {A B C : Type 0} (f : B → List C) (g : A → List B) (xs : List A) → flat_map f (flat_map g xs) ≡ flat_map (λ x. flat_map f (g x)) xs
flat_map-flat_map f g [] = refl
flat_map-flat_map f g (x ∷ xs) = flat_map-append f (g x) (flat_map g xs) ∙ ap (λ l. flat_map f (g x) ++ l) (flat_map-flat_map f g xs)

-- a search among the images of a list
pub find-map : {X Y : Type 0} (f : X → Y) (test : Y → Bool) (xs : List X) (y : Y) → find test (map f xs) ≡ Some y → (x : X) × (find (λ z. test (f z)) xs ≡ Some x) × (f x ≡ y)
find-map f test [] y e = cc
find-map f test (x ∷ xs) y e =
    elim (cases_Bool (test (f x))) [
      | inl passes ↦
          let same = sym (cond-true (test (f x)) (Some (f x)) (find test (map f xs)) passes) ∙ e in
          let one : f x ≡ y = cc in (x, cond-true (test (f x)) (Some x) (find (λ z. test (f z)) xs) passes, one)
      | inr fails ↦
          let rest = find-map f test xs y (sym (cond-false (test (f x)) (Some (f x)) (find test (map f xs)) fails) ∙ e) in
          (rest.0, cond-false (test (f x)) (Some x) (find (λ z. test (f z)) xs) fails ∙ rest.1, rest.2)
    ]
