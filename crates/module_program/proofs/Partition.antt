-- Lists cut where a test stops holding.
use Rattle.std.proofs.Common.{◌≡◌, ℕ, zero, suc, ◌+◌, ◌-◌, ◌≤◌, Bool, true, false, not, ◌&&◌, nat_lt, nat_le, cond, List, [], ◌∷◌, length, get_or, take, drop, map, refl, sym, ap, subst, ◌∙◌, arith, inl, inr}
use Rattle.std.specs.Prelude.{filter, find, slice_get}
use Rattle.std.specs.List.{AllWithin}
use Rattle.std.specs.List.Sorted.{IsPartitionPoint, IsNonDecreasingBy}
use Rattle.std.proofs.Math.Seq.{take-length}
use Rattle.std.proofs.lemmas.Bool.{cases_Bool, cond-true, cond-false}
use Rattle.std.proofs.lemmas.Bool.Decides.{nat_tests}
use Rattle.std.proofs.lemmas.List.{get_or-map, length-map, length-drop}
use Rattle.std.proofs.lemmas.Map.Keys.{non_decreasing_from_sorted}
use Rattle.gt_model.specs.declared.exprs.Expr.{Expr}
use Rattle.gt_model.specs.Ordered.{ordered_exprs}
use Rattle.module_program.specs.Between.{is_between, is_at}

none_of : {X : Type 0} (p : X → Bool) (xs : List X) → AllWithin (λ y. p y ≡ false) xs 0 (length xs) → filter p xs ≡ []
none_of p [] h = refl
none_of p (x ∷ xs) h = cond-false (p x) (x ∷ filter p xs) (filter p xs) (h 0 x (omega arith) (omega arith)) ∙ none_of p xs (λ k d lo hi. h (suc k) d (omega arith) (omega arith))

all_of : {X : Type 0} (p : X → Bool) (xs : List X) → AllWithin (λ y. p y ≡ false) xs 0 (length xs) → filter (λ x. not (p x)) xs ≡ xs
all_of p [] h = refl
all_of p (x ∷ xs) h =
    cond-true (not (p x)) (x ∷ filter (λ y. not (p y)) xs) (filter (λ y. not (p y)) xs) (ap not (h 0 x (omega arith) (omega arith)))
    ∙ ap (λ ys. x ∷ ys) (all_of p xs (λ k d lo hi. h (suc k) d (omega arith) (omega arith)))

-- what passes stands before the place
filter_taken : {X : Type 0} (p : X → Bool) (xs : List X) (i : ℕ) → IsPartitionPoint (λ y. p y ≡ true) (λ y. p y ≡ false) xs i → i ≤ length xs → filter p xs ≡ take i xs
filter_taken p [] zero h le = refl
filter_taken p [] (suc i) h le = absurd (omega arith)
filter_taken p (x ∷ xs) zero h le = none_of p (x ∷ xs) h.1
filter_taken p (x ∷ xs) (suc i) h le =
    cond-true (p x) (x ∷ filter p xs) (filter p xs) (h.0 0 x (omega arith) (omega arith))
    ∙ ap (λ ys. x ∷ ys) (filter_taken p xs i ((λ k d lo hi. h.0 (suc k) d (omega arith) (omega arith)), (λ k d lo hi. h.1 (suc k) d (omega arith) (omega arith))) (omega arith))

-- what fails stands from the place on
filter_dropped : {X : Type 0} (p : X → Bool) (xs : List X) (i : ℕ) → IsPartitionPoint (λ y. p y ≡ true) (λ y. p y ≡ false) xs i → i ≤ length xs → filter (λ x. not (p x)) xs ≡ drop i xs
filter_dropped p [] zero h le = refl
filter_dropped p [] (suc i) h le = absurd (omega arith)
filter_dropped p (x ∷ xs) zero h le = all_of p (x ∷ xs) h.1
filter_dropped p (x ∷ xs) (suc i) h le =
    cond-false (not (p x)) (x ∷ filter (λ y. not (p y)) xs) (filter (λ y. not (p y)) xs) (ap not (h.0 0 x (omega arith) (omega arith)))
    ∙ filter_dropped p xs i ((λ k d lo hi. h.0 (suc k) d (omega arith) (omega arith)), (λ k d lo hi. h.1 (suc k) d (omega arith) (omega arith))) (omega arith)

filter_both : {X : Type 0} (a b : X → Bool) (xs : List X) → filter (λ x. a x && b x) xs ≡ filter b (filter a xs)
filter_both a b [] = refl
filter_both {X} a b (x ∷ xs) = elim (cases_Bool (a x)) [
  | inl h ↦ rw h (ap (λ (ys : List X). cond (b x) (x ∷ ys) ys) (filter_both a b xs))
  | inr h ↦ rw h (filter_both a b xs)
]

pub same_filter : {X : Type 0} (p q : X → Bool) (xs : List X) → ((x : X) → p x ≡ q x) → filter p xs ≡ filter q xs
same_filter p q [] e = refl
same_filter {X} p q (x ∷ xs) e = ap (λ (t : Bool). cond t (x ∷ filter p xs) (filter p xs)) (e x) ∙ ap (λ (ys : List X). cond (q x) (x ∷ ys) ys) (same_filter p q xs e)

find_first : {X : Type 0} (p : X → Bool) (xs : List X) → find p xs ≡ slice_get (filter p xs) 0
find_first p [] = refl
find_first p (x ∷ xs) = elim (cases_Bool (p x)) [
  | inl h ↦ rw h refl
  | inr h ↦ rw h (find_first p xs)
]

-- expressions that ascend don't fall
pub rising : (exprs : List Expr) → ordered_exprs exprs → IsNonDecreasingBy (λ (e : Expr). e.at) exprs
rising exprs ordered i j d le within =
    let up = non_decreasing_from_sorted (map (λ (e : Expr). e.at) exprs) ordered i j 0 le (rw length-map within) in
    let first : get_or (map (λ (e : Expr). e.at) exprs) i 0 ≡ (get_or exprs i d).at = get_or-map (λ (e : Expr). e.at) exprs i d 0 (omega arith) in
    let second : get_or (map (λ (e : Expr). e.at) exprs) j 0 ≡ (get_or exprs j d).at = get_or-map (λ (e : Expr). e.at) exprs j d 0 within in
    omega (arith, up, first, second)

not_below : (from at : ℕ) → nat_le from at ≡ not (nat_lt at from)
not_below from at = grind (arith, nat_tests)

-- the rest of a list behind a place
pub rest_of : {X : Type 0} (xs : List X) (i : ℕ) → take (length xs - i) (drop i xs) ≡ drop i xs
rest_of xs i = subst (λ (n : ℕ). take n (drop i xs) ≡ drop i xs) (length-drop i xs) (take-length (drop i xs))

-- the expressions between two offsets, cut off at both
pub cut : (exprs : List Expr) (from to i n : ℕ)
    → IsPartitionPoint (λ (e : Expr). nat_lt e.at from ≡ true) (λ (e : Expr). nat_lt e.at from ≡ false) exprs i → i ≤ length exprs
    → IsPartitionPoint (λ (e : Expr). nat_lt e.at to ≡ true) (λ (e : Expr). nat_lt e.at to ≡ false) (drop i exprs) n → n ≤ length (drop i exprs)
    → take n (drop i exprs) ≡ filter (is_between from to) exprs
cut exprs from to i n start within end inside =
    sym (filter_taken (λ (e : Expr). nat_lt e.at to) (drop i exprs) n end inside)
    ∙ ap (filter (λ (e : Expr). nat_lt e.at to)) (sym (filter_dropped (λ (e : Expr). nat_lt e.at from) exprs i start within))
    ∙ sym (filter_both (λ (e : Expr). not (nat_lt e.at from)) (λ (e : Expr). nat_lt e.at to) exprs)
    ∙ same_filter (λ (e : Expr). not (nat_lt e.at from) && nat_lt e.at to) (is_between from to) exprs (λ e. ap (λ (t : Bool). t && nat_lt e.at to) (sym (not_below from e.at)))

only_at : (at : ℕ) (e : Expr) → is_between at (at + 1) e ≡ is_at at e
only_at at e = grind (arith, nat_tests)

pub at_place : (exprs : List Expr) (at : ℕ) → find (is_at at) exprs ≡ slice_get (filter (is_between at (at + 1)) exprs) 0
at_place exprs at = find_first (is_at at) exprs ∙ ap (λ (es : List Expr). slice_get es 0) (sym (same_filter (is_between at (at + 1)) (is_at at) exprs (only_at at)))
