-- How many numbers are below a bound.
use Rattle.std.proofs.Common.{◌≡◌, ℕ, zero, suc, ◌+◌, ◌<◌, ◌≤◌, Bool, true, false, cond, leb, ltb, List, [], ◌∷◌, length, get_or, filter, map, refl, sym, ap, ◌∙◌, inl, inr, arith}
use Rattle.std.specs.Prelude.{sum_by}
use Rattle.std.specs.List.Sorted.{IsPermutation}
use Rattle.std.proofs.lemmas.Bool.{cond-true, cond-false, cases_Bool}
use Rattle.std.proofs.lemmas.Bool.Decides.{nat_tests}
use Rattle.std.proofs.lemmas.List.Sorted.{sum_by-IsPermutation}
use Rattle.std.proofs.lemmas.List.Sums.{sum_by-cons}
use Rattle.sym_expr.specs.declared.program.Word.{Word}

abbrev one_of : Bool → ℕ
one_of v = cond v 1 0

count_is_sum : (p : ℕ → Bool) (ns : List ℕ) → length (filter p ns) ≡ sum_by (λ n. one_of (p n)) ns
count_is_sum p [] = refl
count_is_sum p (n ∷ ns) =
    let rest = count_is_sum p ns in
    let sum = sum_by-cons (λ (m : ℕ). one_of (p m)) n ns in
    elim (cases_Bool (p n)) [
      | inl holds ↦
          let kept : length (filter p (n ∷ ns)) ≡ suc (length (filter p ns)) = ap length (cond-true (p n) (n ∷ filter p ns) (filter p ns) holds) in
          let one : one_of (p n) ≡ 1 = ap one_of holds in omega arith
      | inr fails ↦
          let kept : length (filter p (n ∷ ns)) ≡ length (filter p ns) = ap length (cond-false (p n) (n ∷ filter p ns) (filter p ns) fails) in
          let none : one_of (p n) ≡ 0 = ap one_of fails in omega arith
    ]

pub count_permuted : (p : ℕ → Bool) (ns ms : List ℕ) → IsPermutation ns ms → length (filter p ms) ≡ length (filter p ns)
count_permuted p ns ms same = count_is_sum p ms ∙ sum_by-IsPermutation (λ n. one_of (p n)) ns ms same ∙ sym (count_is_sum p ns)

pub count_offsets : (bound : ℕ) (ws : List (ℕ × Word)) → length (filter (λ n. ltb n bound) (map (λ (w : ℕ × Word). w.0) ws)) ≡ length (filter (λ (w : ℕ × Word). ltb w.0 bound) ws)
count_offsets bound [] = refl
count_offsets bound (w ∷ ws) =
    let left = filter (λ n. ltb n bound) (map (λ (w : ℕ × Word). w.0) ws) in
    let right = filter (λ (w : ℕ × Word). ltb w.0 bound) ws in
    elim (cases_Bool (ltb w.0 bound)) [
      | inl holds ↦
          let kept : length (filter (λ n. ltb n bound) (map (λ (w : ℕ × Word). w.0) (w ∷ ws))) ≡ suc (length left) = ap length (cond-true (ltb w.0 bound) (w.0 ∷ left) left holds) in
          kept ∙ ap suc (count_offsets bound ws) ∙ sym (ap length (cond-true (ltb w.0 bound) (w ∷ right) right holds))
      | inr fails ↦ ap length (cond-false (ltb w.0 bound) (w.0 ∷ left) left fails) ∙ count_offsets bound ws ∙ sym (ap length (cond-false (ltb w.0 bound) (w ∷ right) right fails))
    ]

-- how many pass where those that do stand in front
pub count_front : {X : Type 0} (test : X → Bool) (xs : List X) (i : ℕ) → i ≤ length xs → ((k : ℕ) (d : X) → k < i → test (get_or xs k d) ≡ true) → ((k : ℕ) (d : X) → i ≤ k → k < length xs → test (get_or xs k d) ≡ false)
    → length (filter test xs) ≡ i
count_front test [] i le front rest = omega arith
count_front test (x ∷ xs) zero le front rest =
    ap length (cond-false (test x) (x ∷ filter test xs) (filter test xs) (rest zero x (omega arith) (omega arith)))
    ∙ count_front test xs zero (omega arith) (λ k d lt. absurd (omega arith)) (λ k d le lt. rest (suc k) d (omega arith) (omega arith))
count_front test (x ∷ xs) (suc i) le front rest =
    ap length (cond-true (test x) (x ∷ filter test xs) (filter test xs) (front zero x (omega arith)))
    ∙ ap suc (count_front test xs i (omega arith) (λ k d lt. front (suc k) d (omega arith)) (λ k d le lt. rest (suc k) d (omega arith) (omega arith)))

-- up to a number is below the next
up_to : (n d : ℕ) → ltb n (d + 1) ≡ leb n d
up_to n d = grind (arith, nat_tests)

pub count_up_to : (d : ℕ) (ns : List ℕ) → length (filter (λ n. leb n d) ns) ≡ length (filter (λ n. ltb n (d + 1)) ns)
count_up_to d [] = refl
count_up_to d (n ∷ ns) =
    let low = filter (λ n. leb n d) ns in
    let next = filter (λ n. ltb n (d + 1)) ns in
    elim (cases_Bool (leb n d)) [
      | inl holds ↦
          ap length (cond-true (leb n d) (n ∷ low) low holds) ∙ ap suc (count_up_to d ns)
          ∙ sym (ap length (cond-true (ltb n (d + 1)) (n ∷ next) next (up_to n d ∙ holds)))
      | inr fails ↦
          ap length (cond-false (leb n d) (n ∷ low) low fails) ∙ count_up_to d ns
          ∙ sym (ap length (cond-false (ltb n (d + 1)) (n ∷ next) next (up_to n d ∙ fails)))
    ]
