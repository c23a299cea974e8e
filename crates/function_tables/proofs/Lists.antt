-- Lists one element further, and what a search finds in them.
use Rattle.std.proofs.Common.{◌≡◌, ℕ, zero, suc, ◌+◌, ◌<◌, ◌≤◌, Bool, true, false, cond, Option, Some, None, List, [], ◌∷◌, ◌++◌, length, get_or, take, drop, find, refl, sym, ap, subst, ◌∙◌, inl, inr, arith, add-one, Result, Ok, Err, OnOk}
use Rattle.std.specs.Prelude.{slice_get}
use Rattle.std.specs.List.{AllByRecursion}
use Rattle.std.specs.Option.{option_map, option_or}
use Rattle.std.proofs.lemmas.Bool.{cond-true, cond-false, cases_Bool}
use Rattle.std.proofs.lemmas.List.{take_more}
use Rattle.std.proofs.Math.Seq.{drop-cons}

module _ {X : Type 0} where
  pub taken : (xs : List X) (k : ℕ) (x : X) → k < length xs → x ≡ get_or xs k x → take (k + 1) xs ≡ take k xs ++ x ∷ []
  taken xs k x within is = take_more xs k x within ∙ ap (λ y. take k xs ++ y ∷ []) (sym is)

  -- the element at i and those behind it
  pub dropped : (xs : List X) (i : ℕ) (x : X) → i < length xs → x ≡ get_or xs i x → drop i xs ≡ x ∷ drop (i + 1) xs
  dropped xs i x lt is = drop-cons xs i x lt ∙ ap (λ y. y ∷ drop (suc i) xs) (sym is) ∙ ap (λ n. x ∷ drop n xs) (sym (add-one i))

  pub all_append : (P : X → Type 0) (xs ys : List X) → AllByRecursion P xs → AllByRecursion P ys → AllByRecursion P (xs ++ ys)
  all_append P [] ys left right = right
  all_append P (x ∷ xs) ys left right = (left.0, all_append P xs ys left.1 right)

  pub all_at : (P : X → Type 0) (xs : List X) (k : ℕ) (x : X) → AllByRecursion P xs → slice_get xs k ≡ Some x → P x
  all_at P [] k x all e = cc
  all_at P (y ∷ ys) zero x all e = let same : y ≡ x = cc in subst P same all.0
  all_at P (y ∷ ys) (suc k) x all e = all_at P ys k x all.1 e

  pub all_dropped : (P : X → Type 0) (xs : List X) (i : ℕ) → AllByRecursion P xs → AllByRecursion P (drop i xs)
  all_dropped P xs zero all = all
  all_dropped P [] (suc i) all = tt
  all_dropped P (x ∷ xs) (suc i) all = all_dropped P xs i all.1

  pub at_item : (P : X → Type 0) (xs : List X) (i : ℕ) (x : X) → i < length xs → x ≡ get_or xs i x → AllByRecursion P xs → P x
  at_item P xs i x lt is all = (subst (AllByRecursion P) (dropped xs i x lt is) (all_dropped P xs i all)).0

  -- what is found passes
  pub found_passes : (test : X → Bool) (xs : List X) (x : X) → find test xs ≡ Some x → test x ≡ true
  found_passes test [] x e = cc
  found_passes test (y ∷ ys) x e =
      elim (cases_Bool (test y)) [
        | inl passes ↦
            let here = sym (cond-true (test y) (Some y) (find test ys) passes) ∙ e in
            let same : y ≡ x = cc in subst (λ z. test z ≡ true) same passes
        | inr fails ↦ found_passes test ys x (sym (cond-false (test y) (Some y) (find test ys) fails) ∙ e)
      ]

  -- the first that passes, where those that fail stand in front
  pub find_behind : (test : X → Bool) (xs : List X) (i : ℕ) → ((k : ℕ) (d : X) → k < i → k < length xs → test (get_or xs k d) ≡ false) → ((k : ℕ) (d : X) → i ≤ k → k < length xs → test (get_or xs k d) ≡ true)
      → slice_get xs i ≡ find test xs
  find_behind test [] zero front rest = refl
  find_behind test [] (suc i) front rest = refl
  find_behind test (x ∷ xs) zero front rest = sym (cond-true (test x) (Some x) (find test xs) (rest zero x (omega arith) (omega arith)))
  find_behind test (x ∷ xs) (suc i) front rest =
      find_behind test xs i (λ k d lt within. front (suc k) d (omega arith) (omega arith)) (λ k d le lt. rest (suc k) d (omega arith) (omega arith))
      ∙ sym (cond-false (test x) (Some x) (find test xs) (front zero x (omega arith) (omega arith)))

pub or_assoc : {A : Type 0} (x y z : Option A) → option_or (option_or x y) z ≡ option_or x (option_or y z)
or_assoc None y z = refl
or_assoc (Some x) y z = refl

pub or_none : {A : Type 0} (x : Option A) → option_or x None ≡ x
or_none None = refl
or_none (Some x) = refl

pub map_or : {A B : Type 0} (f : A → B) (x y : Option A) → option_map f (option_or x y) ≡ option_or (option_map f x) (option_map f y)
map_or f None y = refl
map_or f (Some x) y = refl

pub map_cond : {A B : Type 0} (f : A → B) (b : Bool) (x : A) → option_map f (cond b (Some x) None) ≡ cond b (Some (f x)) None
map_cond f true x = refl
map_cond f false x = refl

pub dropped_all : {X : Type 0} (xs : List X) (i : ℕ) → length xs ≤ i → drop i xs ≡ []
dropped_all [] zero le = refl
dropped_all [] (suc i) le = refl
dropped_all (x ∷ xs) zero le = absurd (omega arith)
dropped_all (x ∷ xs) (suc i) le = dropped_all xs i (omega arith)

-- what follows where a call was Ok
pub on_ok : {T E P Q : Type 0} (r : Result T E) → (P → Q) → OnOk r P → OnOk r Q
on_ok (Ok x) f h = f h
on_ok (Err e) f h = h
