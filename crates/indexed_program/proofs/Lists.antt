-- Lists: what holds of all, what stands at an index, what counts.
use Rattle.std.proofs.Common.{◌≡◌, ℕ, zero, suc, ◌<◌, ◌≤◌, Bool, true, false, Some, List, [], ◌∷◌, ◌++◌, length, get_or, filter, ap, subst, ◌∙◌, arith, slice_get}
use Rattle.std.specs.List.{AllByRecursion, AllPairs}
use Rattle.std.proofs.lemmas.Bool.{cond-true, cond-false}
use Rattle.std.proofs.lemmas.List.Elements.{recursion_from_All}

module _ {X : Type 0} where
  -- each element and each later one are related
  abbrev pub Pairs : (X → X → Type 0) → List X → Type 0
  Pairs R [] = Unit {0}
  Pairs R (x ∷ xs) = AllByRecursion (R x) xs × Pairs R xs

  pub pairs_from : (R : X → X → Type 0) (xs : List X) → AllPairs R xs → Pairs R xs
  pairs_from R [] h = tt
  pairs_from R (x ∷ xs) h = (
    recursion_from_All (R x) xs (λ j d lt. h zero (suc j) d (omega arith) (omega arith)),
    pairs_from R xs (λ i j d lt within. h (suc i) (suc j) d (omega arith) (omega arith)),
  )

  pub all_through : (P Q : X → Type 0) → ((x : X) → P x → Q x) → (xs : List X) → AllByRecursion P xs → AllByRecursion Q xs
  all_through P Q f [] all = tt
  all_through P Q f (x ∷ xs) all = (f x all.0, all_through P Q f xs all.1)

  pub all_parts : (P : X → Type 0) (xs ys : List X) → AllByRecursion P (xs ++ ys) → AllByRecursion P xs × AllByRecursion P ys
  all_parts P [] ys all = (tt, all)
  all_parts P (x ∷ xs) ys all = let rest = all_parts P xs ys all.1 in ((all.0, rest.0), rest.1)

  pub all_append : (P : X → Type 0) (xs ys : List X) → AllByRecursion P xs → AllByRecursion P ys → AllByRecursion P (xs ++ ys)
  all_append P [] ys left right = right
  all_append P (x ∷ xs) ys left right = (left.0, all_append P xs ys left.1 right)

  -- the pairs of a list, those of another behind it, and those across
  pub record PairsOf (R : X → X → Type 0) (xs ys : List X) : Type 0 where
    pub left : Pairs R xs
    pub across : AllByRecursion (λ x. AllByRecursion (R x) ys) xs
    pub right : Pairs R ys

  pub pairs_parts : (R : X → X → Type 0) (xs ys : List X) → Pairs R (xs ++ ys) → PairsOf R xs ys
  pairs_parts R [] ys all = record { left = tt; across = tt; right = all }
  pairs_parts R (x ∷ xs) ys all =
      let here = all_parts (R x) xs ys all.0 in
      let rest = pairs_parts R xs ys all.1 in
      record { left = (here.0, rest.left); across = (here.1, rest.across); right = rest.right }

  -- how many pass where those that do stand in front
  pub count_front : (test : X → Bool) (xs : List X) (i : ℕ) → i ≤ length xs → ((k : ℕ) (d : X) → k < i → test (get_or xs k d) ≡ true) → ((k : ℕ) (d : X) → i ≤ k → k < length xs → test (get_or xs k d) ≡ false)
      → length (filter test xs) ≡ i
  count_front test [] i le front rest = omega arith
  count_front test (x ∷ xs) zero le front rest =
      ap length (cond-false (test x) (x ∷ filter test xs) (filter test xs) (rest zero x (omega arith) (omega arith)))
      ∙ count_front test xs zero (omega arith) (λ k d lt. absurd (omega arith)) (λ k d le lt. rest (suc k) d (omega arith) (omega arith))
  count_front test (x ∷ xs) (suc i) le front rest =
      ap length (cond-true (test x) (x ∷ filter test xs) (filter test xs) (front zero x (omega arith)))
      ∙ ap suc (count_front test xs i (omega arith) (λ k d lt. front (suc k) d (omega arith)) (λ k d le lt. rest (suc k) d (omega arith) (omega arith)))

  -- what all have is had at each index
  pub all_at : (P : X → Type 0) (xs : List X) (i : ℕ) (x : X) → AllByRecursion P xs → slice_get xs i ≡ Some x → P x
  all_at P [] i x all e = cc
  all_at P (y ∷ ys) zero x all e = let same : y ≡ x = cc in subst P same all.0
  all_at P (y ∷ ys) (suc i) x all e = all_at P ys i x all.1 e

  pub at_front : (xs ys : List X) (i : ℕ) (x : X) → slice_get xs i ≡ Some x → slice_get (xs ++ ys) i ≡ Some x
  at_front [] ys i x e = cc
  at_front (y ∷ xs) ys zero x e = e
  at_front (y ∷ xs) ys (suc i) x e = at_front xs ys i x e

  -- an index behind a list
  pub at_back : (xs ys : List X) (i : ℕ) (x : X) → slice_get ys i ≡ Some x → (k : ℕ) × (slice_get (xs ++ ys) k ≡ Some x)
  at_back [] ys i x e = (i, e)
  at_back (y ∷ xs) ys i x e = let rest = at_back xs ys i x e in (suc rest.0, rest.1)
