-- Lists: what holds of all, and what is left behind a place.
use Rattle.std.proofs.Common.{◌≡◌, ℕ, zero, suc, ◌+◌, ◌-◌, ◌<◌, ◌≤◌, List, [], ◌∷◌, ◌++◌, length, get_or, drop, sum_by, sym, ap, subst, ◌∙◌, arith, add-one}
use Rattle.std.specs.List.{AllByRecursion, AllPairs}
use Rattle.std.proofs.lemmas.List.Elements.{All-from_recursion, recursion_from_All}
use Rattle.std.proofs.lemmas.List.Sums.{sum_by-cons}
use Rattle.std.proofs.Math.Seq.{drop-cons}

module _ {X : Type 0} where
  abbrev pub Pairs : (X → X → Type 0) → List X → Type 0
  Pairs R [] = Unit {0}
  Pairs R (x ∷ xs) = AllByRecursion (R x) xs × Pairs R xs

  pub pairs_from : (R : X → X → Type 0) (xs : List X) → AllPairs R xs → Pairs R xs
  pairs_from R [] h = tt
  pairs_from R (x ∷ xs) h = (
    recursion_from_All (R x) xs (λ j d lt. h zero (suc j) d (omega arith) (omega arith)),
    pairs_from R xs (λ i j d lt within. h (suc i) (suc j) d (omega arith) (omega arith)),
  )

  pub all_pairs : (R : X → X → Type 0) (xs : List X) → Pairs R xs → AllPairs R xs
  all_pairs R [] h i j d lt within = absurd (omega arith)
  all_pairs R (x ∷ xs) h i zero d lt within = absurd (omega arith)
  all_pairs R (x ∷ xs) h zero (suc j) d lt within = All-from_recursion (R x) xs h.0 j d (omega arith)
  all_pairs R (x ∷ xs) h (suc i) (suc j) d lt within = all_pairs R xs h.1 i j d (omega arith) (omega arith)

  pub all_through : (P Q : X → Type 0) → ((x : X) → P x → Q x) → (xs : List X) → AllByRecursion P xs → AllByRecursion Q xs
  all_through P Q f [] all = tt
  all_through P Q f (x ∷ xs) all = (f x all.0, all_through P Q f xs all.1)

  pub all_parts : (P : X → Type 0) (xs ys : List X) → AllByRecursion P (xs ++ ys) → AllByRecursion P xs × AllByRecursion P ys
  all_parts P [] ys all = (tt, all)
  all_parts P (x ∷ xs) ys all = let rest = all_parts P xs ys all.1 in ((all.0, rest.0), rest.1)

  -- the element at i and those behind it
  pub dropped : (xs : List X) (i : ℕ) (x : X) → i < length xs → x ≡ get_or xs i x → drop i xs ≡ x ∷ drop (i + 1) xs
  dropped xs i x lt is = drop-cons xs i x lt ∙ ap (λ y. y ∷ drop (suc i) xs) (sym is) ∙ ap (λ n. x ∷ drop n xs) (sym (add-one i))

  -- the element before i and those behind it
  pub split_before : (xs : List X) (i : ℕ) (x : X) → 0 < i → i ≤ length xs → x ≡ get_or xs (i - 1) x → drop (i - 1) xs ≡ x ∷ drop i xs
  split_before xs i x some within is =
      let next : i - 1 + 1 ≡ i = omega arith in
      dropped xs (i - 1) x (omega arith) is ∙ ap (λ n. x ∷ drop n xs) next

  -- what holds of all holds of those behind
  pub all_dropped : (P : X → Type 0) (xs : List X) (i : ℕ) → AllByRecursion P xs → AllByRecursion P (drop i xs)
  all_dropped P xs zero all = all
  all_dropped P [] (suc i) all = tt
  all_dropped P (x ∷ xs) (suc i) all = all_dropped P xs i all.1

  pub at_item : (P : X → Type 0) (xs : List X) (i : ℕ) (x : X) → i < length xs → x ≡ get_or xs i x → AllByRecursion P xs → P x
  at_item P xs i x lt is all = (subst (AllByRecursion P) (dropped xs i x lt is) (all_dropped P xs i all)).0

  -- a number of one is at most the sum of those of all
  pub item_most : (f : X → ℕ) (xs : List X) (i : ℕ) (x : X) → i < length xs → x ≡ get_or xs i x → f x ≤ sum_by f xs
  item_most f [] i x lt is = absurd (omega arith)
  item_most f (y ∷ ys) zero x lt is = let sum = sum_by-cons f y ys in let same = ap f is in omega arith
  item_most f (y ∷ ys) (suc i) x lt is = let sum = sum_by-cons f y ys in let rest = item_most f ys i x (omega arith) is in omega arith
