-- Spots share no byte exactly where no neighbours by address do.
use Rattle.std.proofs.Common.{◌≡◌, ◌⊎◌, ℕ, ◌<◌, ◌≤◌, true, false, Some, None, List, [], ◌∷◌, filter, nat_lt, nat_le, refl, sym, subst, ◌∙◌, arith, inl, inr}
use Rattle.std.specs.List.{AllByRecursion}
use Rattle.std.proofs.lemmas.Bool.{cond-true, cond-false, cases_Bool}
use Rattle.std.proofs.lemmas.Bool.Decides.{nat_tests}
use Rattle.sym_expr.specs.declared.layout.PlacedSpot.{PlacedSpot}
use Rattle.layout_plan.specs.declared.fault.LayoutFault.TheVariants.{Overlap}
use Rattle.sym_expr.specs.Layouts.{end_of, AreApart}
use Rattle.layout_plan.specs.Faults.{has_bytes, put_by_address, by_address, overlap_after, overlap_fault}
use Rattle.layout_plan.proofs.Pairs.{Pairs, all_through}
use Rattle.layout_plan.proofs.Sorting.{AreAtLeast, Rises, Rises-by_address}

abbrev LieApart : PlacedSpot → PlacedSpot → Type 0
LieApart x y = (end_of x ≤ y.at) ⊎ (end_of y ≤ x.at)

lt_from : (m n : ℕ) → nat_lt m n ≡ true → m < n
lt_from m n h = grind (arith, nat_tests)

ge_from : (m n : ℕ) → nat_lt m n ≡ false → n ≤ m
ge_from m n h = grind (arith, nat_tests)

not_lt : (m n : ℕ) → n ≤ m → nat_lt m n ≡ false
not_lt m n h = grind (arith, nat_tests)

-- what holds of a spot that is put in and of the others holds of all, and back
module _ (P : PlacedSpot → Type 0) where
  all_put : (c : PlacedSpot) (ds : List PlacedSpot) → P c → AllByRecursion P ds → AllByRecursion P (put_by_address c ds)
  all_put c [] one all = (one, tt)
  all_put c (d ∷ ds) one all =
      elim (cases_Bool (nat_le c.at d.at)) [
        | inl before ↦ subst (AllByRecursion P) (sym (cond-true (nat_le c.at d.at) (c ∷ d ∷ ds) (d ∷ put_by_address c ds) before)) (one, all)
        | inr behind ↦ subst (AllByRecursion P) (sym (cond-false (nat_le c.at d.at) (c ∷ d ∷ ds) (d ∷ put_by_address c ds) behind)) (all.0, all_put c ds one all.1)
      ]

  all_taken : (c : PlacedSpot) (ds : List PlacedSpot) → AllByRecursion P (put_by_address c ds) → P c × AllByRecursion P ds
  all_taken c [] all = (all.0, tt)
  all_taken c (d ∷ ds) all =
      elim (cases_Bool (nat_le c.at d.at)) [
        | inl before ↦ subst (AllByRecursion P) (cond-true (nat_le c.at d.at) (c ∷ d ∷ ds) (d ∷ put_by_address c ds) before) all
        | inr behind ↦
            let parts = subst (AllByRecursion P) (cond-false (nat_le c.at d.at) (c ∷ d ∷ ds) (d ∷ put_by_address c ds) behind) all in
            let rest = all_taken c ds parts.1 in
            (rest.0, (parts.0, rest.1))
      ]

  -- of the spots that aren't empty
  pub all_sorted : (xs : List PlacedSpot) → AllByRecursion (λ x. 0 < x.size → P x) xs → AllByRecursion P (by_address (filter has_bytes xs))
  all_sorted [] all = tt
  all_sorted (x ∷ xs) all =
      elim (cases_Bool (has_bytes x)) [
        | inl some ↦
            subst (λ ys. AllByRecursion P (by_address ys)) (sym (cond-true (has_bytes x) (x ∷ filter has_bytes xs) (filter has_bytes xs) some))
            (all_put x (by_address (filter has_bytes xs)) (all.0 (lt_from 0 x.size some)) (all_sorted xs all.1))
        | inr empty ↦
            subst (λ ys. AllByRecursion P (by_address ys)) (sym (cond-false (has_bytes x) (x ∷ filter has_bytes xs) (filter has_bytes xs) empty)) (all_sorted xs all.1)
      ]

  all_unsorted : (xs : List PlacedSpot) → AllByRecursion P (by_address (filter has_bytes xs)) → AllByRecursion (λ x. 0 < x.size → P x) xs
  all_unsorted [] all = tt
  all_unsorted (x ∷ xs) all =
      elim (cases_Bool (has_bytes x)) [
        | inl some ↦
            let parts = all_taken x (by_address (filter has_bytes xs)) (subst (λ ys. AllByRecursion P (by_address ys)) (cond-true (has_bytes x) (x ∷ filter has_bytes xs) (filter has_bytes xs) some) all) in
            (λ _. parts.0, all_unsorted xs parts.1)
        | inr empty ↦
            let rest = subst (λ ys. AllByRecursion P (by_address ys)) (cond-false (has_bytes x) (x ∷ filter has_bytes xs) (filter has_bytes xs) empty) all in
            let none = ge_from 0 x.size empty in
            (λ some. absurd (omega arith), all_unsorted xs rest)
      ]

flip : (x y : PlacedSpot) → LieApart x y → LieApart y x
flip x y (inl h) = inr h
flip x y (inr h) = inl h

pairs_put : (c : PlacedSpot) (ds : List PlacedSpot) → AllByRecursion (LieApart c) ds → Pairs LieApart ds → Pairs LieApart (put_by_address c ds)
pairs_put c [] one all = (tt, tt)
pairs_put c (d ∷ ds) one all =
    elim (cases_Bool (nat_le c.at d.at)) [
      | inl before ↦ subst (Pairs LieApart) (sym (cond-true (nat_le c.at d.at) (c ∷ d ∷ ds) (d ∷ put_by_address c ds) before)) (one, all)
      | inr behind ↦
          subst (Pairs LieApart) (sym (cond-false (nat_le c.at d.at) (c ∷ d ∷ ds) (d ∷ put_by_address c ds) behind))
          (all_put (LieApart d) c ds (flip c d one.0) all.0, pairs_put c ds one.1 all.1)
    ]

pairs_taken : (c : PlacedSpot) (ds : List PlacedSpot) → Pairs LieApart (put_by_address c ds) → AllByRecursion (LieApart c) ds × Pairs LieApart ds
pairs_taken c [] all = (tt, tt)
pairs_taken c (d ∷ ds) all =
    elim (cases_Bool (nat_le c.at d.at)) [
      | inl before ↦ subst (Pairs LieApart) (cond-true (nat_le c.at d.at) (c ∷ d ∷ ds) (d ∷ put_by_address c ds) before) all
      | inr behind ↦
          let parts = subst (Pairs LieApart) (cond-false (nat_le c.at d.at) (c ∷ d ∷ ds) (d ∷ put_by_address c ds) behind) all in
          let first = all_taken (LieApart d) c ds parts.0 in
          let rest = pairs_taken c ds parts.1 in
          ((flip d c first.0, rest.0), (first.1, rest.1))
    ]

sorted_apart : (xs : List PlacedSpot) → Pairs AreApart xs → Pairs LieApart (by_address (filter has_bytes xs))
sorted_apart [] all = tt
sorted_apart (x ∷ xs) all =
    elim (cases_Bool (has_bytes x)) [
      | inl some ↦
          let here : 0 < x.size = lt_from 0 x.size some in
          subst (λ ys. Pairs LieApart (by_address ys)) (sym (cond-true (has_bytes x) (x ∷ filter has_bytes xs) (filter has_bytes xs) some))
          (pairs_put x (by_address (filter has_bytes xs)) (all_sorted (LieApart x) xs (all_through (AreApart x) (λ y. 0 < y.size → LieApart x y) (λ y h. h here) xs all.0)) (sorted_apart xs all.1))
      | inr empty ↦ subst (λ ys. Pairs LieApart (by_address ys)) (sym (cond-false (has_bytes x) (x ∷ filter has_bytes xs) (filter has_bytes xs) empty)) (sorted_apart xs all.1)
    ]

unsorted_apart : (xs : List PlacedSpot) → Pairs LieApart (by_address (filter has_bytes xs)) → Pairs AreApart xs
unsorted_apart [] all = tt
unsorted_apart (x ∷ xs) all =
    elim (cases_Bool (has_bytes x)) [
      | inl some ↦
          let parts = pairs_taken x (by_address (filter has_bytes xs)) (subst (λ ys. Pairs LieApart (by_address ys)) (cond-true (has_bytes x) (x ∷ filter has_bytes xs) (filter has_bytes xs) some) all) in
          (all_through (λ y. 0 < y.size → LieApart x y) (AreApart x) (λ y h here. h) xs (all_unsorted (LieApart x) xs parts.0), unsorted_apart xs parts.1)
      | inr empty ↦
          let none = ge_from 0 x.size empty in
          (all_through (λ y. Unit {0}) (AreApart x) (λ y h here. absurd (omega arith)) xs (every xs), unsorted_apart xs (subst (λ ys. Pairs LieApart (by_address ys)) (cond-false (has_bytes x) (x ∷ filter has_bytes xs) (filter has_bytes xs) empty) all))
    ]
  where
    every : (ys : List PlacedSpot) → AllByRecursion (λ y. Unit {0}) ys
    every [] = tt
    every (y ∷ ys) = (tt, every ys)

-- behind a spot, spots that rise and of which no neighbours overlap begin at its end or later
begin_later : (n m : ℕ) (ys : List PlacedSpot) → n ≤ m → AreAtLeast m ys → AllByRecursion (λ y. n ≤ y.at) ys
begin_later n m [] le h = tt
begin_later n m (y ∷ ys) le h = let first = h.0 in (omega arith, begin_later n m ys le h.1)

apart_after : (x : PlacedSpot) (ys : List PlacedSpot) → Rises ys → overlap_after x ys ≡ None → AllByRecursion (λ y. end_of x ≤ y.at) ys × Pairs LieApart ys
apart_after x [] up none = (tt, tt)
apart_after x (y ∷ ys) up none =
    elim (cases_Bool (nat_lt y.at (end_of x))) [
      | inl within ↦ let clash = sym (cond-true _ (Some (Overlap x.spot y.spot)) (overlap_after y ys) within) ∙ none in cc
      | inr behind ↦
          let rest = apart_after y ys up.1 (sym (cond-false _ (Some (Overlap x.spot y.spot)) (overlap_after y ys) behind) ∙ none) in
          let le : end_of x ≤ y.at = ge_from y.at (end_of x) behind in
          ((le, begin_later (end_of x) y.at ys le up.0), (all_through (λ z. end_of y ≤ z.at) (LieApart y) (λ z h. inl h) ys rest.0, rest.1))
    ]

apart_from : (ys : List PlacedSpot) → Rises ys → overlap_fault ys ≡ None → Pairs LieApart ys
apart_from [] up none = tt
apart_from (x ∷ xs) up none =
    let rest = apart_after x xs up.1 none in
    (all_through (λ z. end_of x ≤ z.at) (LieApart x) (λ z h. inl h) xs rest.0, rest.1)

none_after : (x : PlacedSpot) (ys : List PlacedSpot) → Rises (x ∷ ys) → AllByRecursion (λ y. 0 < y.size) ys → Pairs LieApart (x ∷ ys) → overlap_after x ys ≡ None
none_after x [] up some all = refl
none_after x (y ∷ ys) up some all =
    let first : LieApart x y = all.0.0 in
    let le : end_of x ≤ y.at = elim first [ inl h ↦ h | inr h ↦ absurd (omega (arith, up.0.0, some.0)) ] in
    cond-false _ (Some (Overlap x.spot y.spot)) (overlap_after y ys) (not_lt y.at (end_of x) le) ∙ none_after y ys up.1 some.1 all.1

none_from : (ys : List PlacedSpot) → Rises ys → AllByRecursion (λ y. 0 < y.size) ys → Pairs LieApart ys → overlap_fault ys ≡ None
none_from [] up some all = refl
none_from (x ∷ xs) up some all = none_after x xs up some.1 all

pub apart_without_fault : (xs : List PlacedSpot) → overlap_fault (by_address (filter has_bytes xs)) ≡ None → Pairs AreApart xs
apart_without_fault xs none = unsorted_apart xs (apart_from (by_address (filter has_bytes xs)) (Rises-by_address (filter has_bytes xs)) none)

every_has : (xs : List PlacedSpot) → AllByRecursion (λ (x : PlacedSpot). 0 < x.size → 0 < x.size) xs
every_has [] = tt
every_has (x ∷ xs) = (λ h. h, every_has xs)

pub no_fault_apart : (xs : List PlacedSpot) → Pairs AreApart xs → overlap_fault (by_address (filter has_bytes xs)) ≡ None
no_fault_apart xs all =
    none_from (by_address (filter has_bytes xs)) (Rises-by_address (filter has_bytes xs)) (all_sorted (λ y. 0 < y.size) xs (every_has xs)) (sorted_apart xs all)
