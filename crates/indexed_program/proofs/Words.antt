-- Words in the order of their offsets.
use Rattle.std.proofs.Common.{◌≡◌, ℕ, zero, ◌+◌, ◌<◌, ◌≤◌, Bool, true, false, cond, eqb, ltb, leb, Option, Some, None, List, [], ◌∷◌, length, drop, filter, map, refl, sym, ap, ◌∙◌, inl, inr, arith, slice_get, sum_by, nat_cmp, is_lt, suc}
use Rattle.std.specs.List.{AllByRecursion}
use Rattle.std.specs.List.Sorted.{IsNonDecreasingBy, IsPermutation, IsStableByKey, ties}
use Rattle.std.specs.Option.{option_and_then}
use Rattle.std.proofs.lemmas.Bool.{cond-true, cond-false, cases_Bool}
use Rattle.std.proofs.lemmas.Bool.Decides.{nat_tests}
use Rattle.std.proofs.lemmas.List.Elements.{filter_agree, recursion_from_All}
use Rattle.std.proofs.lemmas.List.Sorted.{sum_by-IsPermutation}
use Rattle.std.proofs.lemmas.List.Sums.{sum_by-cons}
use Rattle.sym_expr.specs.Patches.{inserted_at}
use Rattle.indexed_program.proofs.Lists.{all_through}

pub lt_from : (m n : ℕ) → ltb m n ≡ true → m < n
lt_from m n h = grind (arith, nat_tests)

le_from : (m n : ℕ) → ltb m n ≡ false → n ≤ m
le_from m n h = grind (arith, nat_tests)

not_lt : (m n : ℕ) → n ≤ m → ltb m n ≡ false
not_lt m n h = grind (arith, nat_tests)

not_eq : (m n : ℕ) → m < n → eqb m n ≡ false
not_eq m n h = grind (arith, nat_tests)

not_eq_above : (m n : ℕ) → n < m → eqb m n ≡ false
not_eq_above m n h = grind (arith, nat_tests)

eq_from : (m n : ℕ) → eqb m n ≡ true → m ≡ n
eq_from m n h = grind (arith, nat_tests)

le_yes : (m n : ℕ) → m ≤ n → leb m n ≡ true
le_yes m n h = grind (arith, nat_tests)

le_no : (m n : ℕ) → n < m → leb m n ≡ false
le_no m n h = grind (arith, nat_tests)

eq_yes : (m n : ℕ) → m ≡ n → eqb m n ≡ true
eq_yes m n h = grind (arith, nat_tests)

ne_from : (m n : ℕ) → eqb m n ≡ false → m ≤ n → m < n
ne_from m n h le = grind (arith, nat_tests)

ties_yes : (m n : ℕ) → eqb m n ≡ true → ties (λ x y. is_lt (nat_cmp x y)) m n ≡ true
ties_yes m n h = grind (arith, nat_tests)

ties_no : (m n : ℕ) → eqb m n ≡ false → ties (λ x y. is_lt (nat_cmp x y)) m n ≡ false
ties_no m n h = grind (arith, nat_tests)

ties_at : (m n : ℕ) → ties (λ x y. is_lt (nat_cmp x y)) m n ≡ eqb m n
ties_at m n =
    elim (cases_Bool (eqb m n)) [
      | inl same ↦ ties_yes m n same ∙ sym same
      | inr other ↦ ties_no m n other ∙ sym other
    ]

abbrev one_of : Bool → ℕ
one_of v = cond v 1 0

module _ {X : Type 0} where
  -- the tests of an offset
  abbrev pub is_below : ℕ → (ℕ × X) → Bool
  is_below o w = ltb w.0 o

  abbrev pub is_at : ℕ → (ℕ × X) → Bool
  is_at o w = eqb o w.0

  abbrev pub is_up_to : ℕ → (ℕ × X) → Bool
  is_up_to o w = leb w.0 o

  -- the word of a pair at an offset
  abbrev pub here : ℕ → (ℕ × X) → Option X
  here o w = cond (is_at o w) (Some w.1) None

  abbrev AtLeast : ℕ → List (ℕ × X) → Type 0
  AtLeast n ws = AllByRecursion (λ (w : ℕ × X). n ≤ w.0) ws

  abbrev pub Rises : List (ℕ × X) → Type 0
  Rises [] = Unit {0}
  Rises (w ∷ ws) = AtLeast w.0 ws × Rises ws

  pub rises_from : (ws : List (ℕ × X)) → IsNonDecreasingBy (λ (w : ℕ × X). w.0) ws → Rises ws
  rises_from [] h = tt
  rises_from (w ∷ ws) h = (
    recursion_from_All (λ (x : ℕ × X). w.0 ≤ x.0) ws (λ j d lt. h zero (suc j) d (omega arith) (omega arith)),
    rises_from ws (λ i j d le lt. h (suc i) (suc j) d (omega arith) (omega arith)),
  )

  -- those up to an offset are those below it and those at it
  pub count_parts : (o : ℕ) (ws : List (ℕ × X)) → length (filter (is_up_to o) ws) ≡ length (filter (is_below o) ws) + length (filter (is_at o) ws)
  count_parts o [] = refl
  count_parts o (w ∷ ws) =
      let rest = count_parts o ws in
      elim (cases_Bool (is_below o w)) [
        | inl below ↦
            let lt : w.0 < o = lt_from w.0 o below in
            let a = ap length (cond-true (is_up_to o w) (w ∷ filter (is_up_to o) ws) (filter (is_up_to o) ws) (le_yes w.0 o (omega arith))) in
            let b = ap length (cond-true (is_below o w) (w ∷ filter (is_below o) ws) (filter (is_below o) ws) below) in
            let c = ap length (cond-false (is_at o w) (w ∷ filter (is_at o) ws) (filter (is_at o) ws) (not_eq_above o w.0 lt)) in
            omega arith
        | inr above ↦
            let le : o ≤ w.0 = le_from w.0 o above in
            let b = ap length (cond-false (is_below o w) (w ∷ filter (is_below o) ws) (filter (is_below o) ws) above) in
            elim (cases_Bool (is_at o w)) [
              | inl at ↦
                  let same : o ≡ w.0 = eq_from o w.0 at in
                  let a = ap length (cond-true (is_up_to o w) (w ∷ filter (is_up_to o) ws) (filter (is_up_to o) ws) (le_yes w.0 o (omega arith))) in
                  let c = ap length (cond-true (is_at o w) (w ∷ filter (is_at o) ws) (filter (is_at o) ws) at) in
                  omega arith
              | inr off ↦
                  let lt : o < w.0 = ne_from o w.0 off le in
                  let a = ap length (cond-false (is_up_to o w) (w ∷ filter (is_up_to o) ws) (filter (is_up_to o) ws) (le_no w.0 o lt)) in
                  let c = ap length (cond-false (is_at o w) (w ∷ filter (is_at o) ws) (filter (is_at o) ws) off) in
                  omega arith
            ]
      ]

  none_below : (o : ℕ) (ws : List (ℕ × X)) → AtLeast o ws → length (filter (is_below o) ws) ≡ 0
  none_below o [] all = refl
  none_below o (w ∷ ws) all = ap length (cond-false (is_below o w) (w ∷ filter (is_below o) ws) (filter (is_below o) ws) (not_lt w.0 o all.0)) ∙ none_below o ws all.1

  none_at : (o : ℕ) (ws : List (ℕ × X)) → AtLeast (suc o) ws → inserted_at o ws ≡ []
  none_at o [] all = refl
  none_at o (w ∷ ws) all =
      ap (map (λ (v : ℕ × X). v.1)) (cond-false (is_at o w) (w ∷ filter (is_at o) ws) (filter (is_at o) ws) (not_eq o w.0 all.0)) ∙ none_at o ws all.1

  none_here : (o : ℕ) (ws : List (ℕ × X)) (j : ℕ) → AtLeast (suc o) ws → option_and_then (here o) (slice_get ws j) ≡ None
  none_here o [] j all = refl
  none_here o (w ∷ ws) zero all = cond-false (is_at o w) (Some w.1) None (not_eq o w.0 all.0)
  none_here o (w ∷ ws) (suc j) all = none_here o ws j all.1

  first_found : (o : ℕ) (w : ℕ × X) (ws : List (ℕ × X)) (j : ℕ) → is_at o w ≡ true → ((k : ℕ) → slice_get (inserted_at o ws) k ≡ option_and_then (here o) (slice_get ws k))
      → slice_get (inserted_at o (w ∷ ws)) j ≡ option_and_then (here o) (slice_get (w ∷ ws) j)
  first_found o w ws zero at rest =
      ap (λ l. slice_get (map (λ (v : ℕ × X). v.1) l) zero) (cond-true (is_at o w) (w ∷ filter (is_at o) ws) (filter (is_at o) ws) at)
      ∙ sym (cond-true (is_at o w) (Some w.1) None at)
  first_found o w ws (suc j) at rest =
      ap (λ l. slice_get (map (λ (v : ℕ × X). v.1) l) (suc j)) (cond-true (is_at o w) (w ∷ filter (is_at o) ws) (filter (is_at o) ws) at)
      ∙ rest j

  found_front : (o : ℕ) (ws : List (ℕ × X)) (j : ℕ) → AtLeast o ws → Rises ws → slice_get (inserted_at o ws) j ≡ option_and_then (here o) (slice_get ws j)
  found_front o [] j all r = refl
  found_front o (w ∷ ws) j all r =
      elim (cases_Bool (is_at o w)) [
        | inl at ↦ first_found o w ws j at (λ k. found_front o ws k all.1 r.1)
        | inr off ↦
            let lt : o < w.0 = ne_from o w.0 off all.0 in
            let above : AtLeast (suc o) (w ∷ ws) = (lt, all_through (λ (v : ℕ × X). w.0 ≤ v.0) (λ (v : ℕ × X). suc o ≤ v.0) (λ v le. omega arith) ws r.0) in
            ap (λ l. slice_get l j) (none_at o (w ∷ ws) above) ∙ sym (none_here o (w ∷ ws) j above)
      ]

  -- the words at an offset stand behind those below it
  pub found_behind : (o : ℕ) (ws : List (ℕ × X)) (j : ℕ) → Rises ws → slice_get (inserted_at o ws) j ≡ option_and_then (here o) (slice_get (drop (length (filter (is_below o) ws)) ws) j)
  found_behind o [] j r = refl
  found_behind o (w ∷ ws) j r =
      elim (cases_Bool (is_below o w)) [
        | inl below ↦
            let off : is_at o w ≡ false = not_eq_above o w.0 (lt_from w.0 o below) in
            ap (λ l. slice_get (map (λ (v : ℕ × X). v.1) l) j) (cond-false (is_at o w) (w ∷ filter (is_at o) ws) (filter (is_at o) ws) off)
            ∙ found_behind o ws j r.1
            ∙ sym (ap (λ l. option_and_then (here o) (slice_get (drop (length l) (w ∷ ws)) j)) (cond-true (is_below o w) (w ∷ filter (is_below o) ws) (filter (is_below o) ws) below))
        | inr above ↦
            let le : o ≤ w.0 = le_from w.0 o above in
            let all : AtLeast o (w ∷ ws) = (le, all_through (λ (v : ℕ × X). w.0 ≤ v.0) (λ (v : ℕ × X). o ≤ v.0) (λ v more. omega arith) ws r.0) in
            found_front o (w ∷ ws) j all r
            ∙ sym (ap (λ n. option_and_then (here o) (slice_get (drop n (w ∷ ws)) j)) (none_below o (w ∷ ws) all))
      ]

  -- ---- counts in another order

  count_is_sum : (p : (ℕ × X) → Bool) (ws : List (ℕ × X)) → length (filter p ws) ≡ sum_by (λ w. one_of (p w)) ws
  count_is_sum p [] = refl
  count_is_sum p (w ∷ ws) =
      let rest = count_is_sum p ws in
      let sum = sum_by-cons (λ (v : ℕ × X). one_of (p v)) w ws in
      elim (cases_Bool (p w)) [
        | inl holds ↦
            let kept : length (filter p (w ∷ ws)) ≡ suc (length (filter p ws)) = ap length (cond-true (p w) (w ∷ filter p ws) (filter p ws) holds) in
            let one : one_of (p w) ≡ 1 = ap one_of holds in omega arith
        | inr fails ↦
            let kept : length (filter p (w ∷ ws)) ≡ length (filter p ws) = ap length (cond-false (p w) (w ∷ filter p ws) (filter p ws) fails) in
            let none : one_of (p w) ≡ 0 = ap one_of fails in omega arith
      ]

  count_permuted : (p : (ℕ × X) → Bool) (ws vs : List (ℕ × X)) → IsPermutation ws vs → length (filter p vs) ≡ length (filter p ws)
  count_permuted p ws vs same = count_is_sum p vs ∙ sum_by-IsPermutation (λ w. one_of (p w)) ws vs same ∙ sym (count_is_sum p ws)

  pub below_permuted : (o : ℕ) (ws vs : List (ℕ × X)) → IsPermutation ws vs → length (filter (is_below o) vs) ≡ length (filter (is_below o) ws)
  below_permuted o = count_permuted (is_below o)

  -- a stable sort keeps the words of an offset in order
  pub same_at : (o : ℕ) (x : X) (ws vs : List (ℕ × X)) → IsStableByKey (λ (w : ℕ × X). w.0) nat_cmp ws vs → inserted_at o vs ≡ inserted_at o ws
  same_at o x ws vs stable =
      let tie = λ (w : ℕ × X). ties (λ (a b : ℕ × X). is_lt (nat_cmp a.0 b.0)) (o, x) w in
      let agree : (w : ℕ × X) → tie w ≡ is_at o w = λ w. ties_at o w.0 in
      ap (map (λ (w : ℕ × X). w.1)) (sym (filter_agree tie (is_at o) agree vs) ∙ stable (o, x) ∙ filter_agree tie (is_at o) agree ws)

  length_filter : (p : (ℕ × X) → Bool) (ws : List (ℕ × X)) → length (filter p ws) ≤ length ws
  length_filter p [] = omega arith
  length_filter p (w ∷ ws) =
      let rest = length_filter p ws in
      elim (cases_Bool (p w)) [
        | inl holds ↦ let kept = ap length (cond-true (p w) (w ∷ filter p ws) (filter p ws) holds) in omega arith
        | inr fails ↦ let kept = ap length (cond-false (p w) (w ∷ filter p ws) (filter p ws) fails) in omega arith
      ]

  -- those below an offset and those at it are some of all
  pub below_and_at : (o : ℕ) (ws : List (ℕ × X)) → length (filter (is_below o) ws) + length (filter (is_at o) ws) ≤ length ws
  below_and_at o ws = let parts = count_parts o ws in let most = length_filter (is_up_to o) ws in omega arith
