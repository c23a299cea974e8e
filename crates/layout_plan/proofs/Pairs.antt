-- Lists of which each element is in a relation to each later one, by recursion on the list.
use Rattle.std.proofs.Common.{◌≡◌, zero, suc, Bool, false, Some, None, List, [], ◌∷◌, ◌++◌, find, refl, sym, ◌∙◌, arith, inl, inr}
use Rattle.std.specs.List.{AllByRecursion, AllPairs}
use Rattle.std.proofs.lemmas.Bool.{cond-true, cond-false, cases_Bool}
use Rattle.std.proofs.lemmas.List.Elements.{All-from_recursion, recursion_from_All}

module _ {X : Type 0} where
  abbrev pub Pairs : (X → X → Type 0) → List X → Type 0
  Pairs R [] = Unit {0}
  Pairs R (x ∷ xs) = AllByRecursion (R x) xs × Pairs R xs

  pub all_pairs : (R : X → X → Type 0) (xs : List X) → Pairs R xs → AllPairs R xs
  all_pairs R [] h i j d lt within = absurd (omega arith)
  all_pairs R (x ∷ xs) h i zero d lt within = absurd (omega arith)
  all_pairs R (x ∷ xs) h zero (suc j) d lt within = All-from_recursion (R x) xs h.0 j d (omega arith)
  all_pairs R (x ∷ xs) h (suc i) (suc j) d lt within = all_pairs R xs h.1 i j d (omega arith) (omega arith)

  pub pairs_from : (R : X → X → Type 0) (xs : List X) → AllPairs R xs → Pairs R xs
  pairs_from R [] h = tt
  pairs_from R (x ∷ xs) h = (
    recursion_from_All (R x) xs (λ j d lt. h zero (suc j) d (omega arith) (omega arith)),
    pairs_from R xs (λ i j d lt within. h (suc i) (suc j) d (omega arith) (omega arith)),
  )

  -- where one fact gives the other
  pub all_through : (P Q : X → Type 0) → ((x : X) → P x → Q x) → (xs : List X) → AllByRecursion P xs → AllByRecursion Q xs
  all_through P Q f [] all = tt
  all_through P Q f (x ∷ xs) all = (f x all.0, all_through P Q f xs all.1)

  pub all_both : (P Q : X → Type 0) (xs : List X) → AllByRecursion P xs → AllByRecursion Q xs → AllByRecursion (λ x. P x × Q x) xs
  all_both P Q [] p q = tt
  all_both P Q (x ∷ xs) p q = ((p.0, q.0), all_both P Q xs p.1 q.1)

  pub all_append : (P : X → Type 0) (xs ys : List X) → AllByRecursion P (xs ++ ys) → AllByRecursion P xs × AllByRecursion P ys
  all_append P [] ys all = (tt, all)
  all_append P (x ∷ xs) ys all = let rest = all_append P xs ys all.1 in ((all.0, rest.0), rest.1)

  -- a search that finds nothing, and a list in which nothing passes
  pub none_passes : (test : X → Bool) (xs : List X) → find test xs ≡ None → AllByRecursion (λ x. test x ≡ false) xs
  none_passes test [] h = tt
  none_passes test (x ∷ xs) h =
      elim (cases_Bool (test x)) [
        | inl passes ↦ let clash = sym (cond-true (test x) (Some x) (find test xs) passes) ∙ h in cc
        | inr fails ↦ (fails, none_passes test xs (sym (cond-false (test x) (Some x) (find test xs) fails) ∙ h))
      ]

  pub finds_none : (test : X → Bool) (xs : List X) → AllByRecursion (λ x. test x ≡ false) xs → find test xs ≡ None
  finds_none test [] all = refl
  finds_none test (x ∷ xs) all = cond-false (test x) (Some x) (find test xs) all.0 ∙ finds_none test xs all.1
