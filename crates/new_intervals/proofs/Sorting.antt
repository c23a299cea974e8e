-- Expressions sorted by their offset, level ones as they were, are by offset.
use Rattle.std.proofs.Common.{◌≡◌, ℕ, suc, ◌<◌, ◌≤◌, Bool, true, false, nat_lt, nat_eq, ◌&&◌, not, cond, List, [], ◌∷◌, length, get_or, refl, sym, ap, ◌∙◌, arith, inl, inr}
use Rattle.std.specs.Prelude.{filter}
use Rattle.std.specs.List.Sorted.{ties, IsStableByKey, IsNonDecreasingBy}
use Rattle.std.specs.Ordering.{nat_cmp, is_lt}
use Rattle.std.proofs.lemmas.Bool.{cases_Bool, ltb-true, ltb-false, eqb-true, eq-eqb, cond-true, cond-false}
use Rattle.std.proofs.lemmas.Bool.Decides.{nat_tests}
use Rattle.gt_model.specs.declared.exprs.Expr.{Expr}
use Rattle.rewrite.specs.Exprs.{by_offset, put_by_offset}

-- elements of one key
abbrev at : {X : Type 0} → (X → ℕ) → ℕ → X → Bool
at key n x = nat_eq n (key x)

-- a list sorted by insertion
abbrev pub put : {X : Type 0} → (X → ℕ) → X → List X → List X
put key x [] = x ∷ []
put key x (y ∷ ys) = cond (nat_lt (key y) (key x)) (y ∷ put key x ys) (x ∷ y ∷ ys)

abbrev pub sorted : {X : Type 0} → (X → ℕ) → List X → List X
sorted key [] = []
sorted key (x ∷ xs) = put key x (sorted key xs)

-- no key of the list is below n
abbrev Above : {X : Type 0} → (X → ℕ) → ℕ → List X → Type 0
Above key n [] = Unit {0}
Above key n (y ∷ ys) = (n ≤ key y) × Above key n ys

-- keys don't fall
abbrev Up : {X : Type 0} → (X → ℕ) → List X → Type 0
Up key [] = Unit {0}
Up key (x ∷ xs) = Above key (key x) xs × Up key xs

yes : {X : Type 0} (p : X → Bool) (x : X) (xs : List X) → p x ≡ true → filter p (x ∷ xs) ≡ x ∷ filter p xs
yes p x xs e = cond-true (p x) (x ∷ filter p xs) (filter p xs) e

no : {X : Type 0} (p : X → Bool) (x : X) (xs : List X) → p x ≡ false → filter p (x ∷ xs) ≡ filter p xs
no p x xs e = cond-false (p x) (x ∷ filter p xs) (filter p xs) e

same_filter : {X : Type 0} (p q : X → Bool) (xs : List X) → ((x : X) → p x ≡ q x) → filter p xs ≡ filter q xs
same_filter p q [] e = refl
same_filter p q (x ∷ xs) e = elim (cases_Bool (q x)) [
  | inl h ↦ yes p x xs (e x ∙ h) ∙ ap (λ ys. x ∷ ys) (same_filter p q xs e) ∙ sym (yes q x xs h)
  | inr h ↦ no p x xs (e x ∙ h) ∙ same_filter p q xs e ∙ sym (no q x xs h)
]

not_eq : (m n : ℕ) → (m ≡ n → ⊥) → nat_eq m n ≡ false
not_eq m n differ = elim (cases_Bool (nat_eq m n)) [
  | inl h ↦ absurd (differ (eqb-true m n h))
  | inr h ↦ h
]

nil_cons : {X : Type 0} (x : X) (xs : List X) → [] ≡ x ∷ xs → ⊥
nil_cons x xs e = cc

under : {X : Type 0} (key : X → ℕ) (n : ℕ) (x : X) (xs ys : List X) → filter (at key n) xs ≡ filter (at key n) ys → filter (at key n) (x ∷ xs) ≡ filter (at key n) (x ∷ ys)
under {X} key n x xs ys e = ap (λ (zs : List X). cond (at key n x) (x ∷ zs) zs) e

tail_agrees : {X : Type 0} (key : X → ℕ) (n : ℕ) (x y : X) (xs ys : List X) → x ≡ y → filter (at key n) (x ∷ xs) ≡ filter (at key n) (y ∷ ys) → filter (at key n) xs ≡ filter (at key n) ys
tail_agrees {X} key n x y xs ys one e = elim (cases_Bool (at key n x)) [
  | inl h ↦ let whole : x ∷ filter (at key n) xs ≡ y ∷ filter (at key n) ys = sym (yes (at key n) x xs h) ∙ e ∙ yes (at key n) y ys (ap (at key n) (sym one) ∙ h) in cc
  | inr h ↦ sym (no (at key n) x xs h) ∙ e ∙ no (at key n) y ys (ap (at key n) (sym one) ∙ h)
]

above_less : {X : Type 0} (key : X → ℕ) (m n : ℕ) (xs : List X) → m ≤ n → Above key n xs → Above key m xs
above_less key m n [] le above = tt
above_less key m n (x ∷ xs) le above = (omega (arith, above.0), above_less key m n xs le above.1)

above_put : {X : Type 0} (key : X → ℕ) (n : ℕ) (x : X) (xs : List X) → n ≤ key x → Above key n xs → Above key n (put key x xs)
above_put key n x [] le above = (le, tt)
above_put {X} key n x (y ∷ ys) le above = elim (cases_Bool (nat_lt (key y) (key x))) [
  | inl h ↦ rw h ((above.0, above_put key n x ys le above.1))
  | inr h ↦ rw h ((le, above))
]

up_put : {X : Type 0} (key : X → ℕ) (x : X) (xs : List X) → Up key xs → Up key (put key x xs)
up_put key x [] up = (tt, tt)
up_put key x (y ∷ ys) up = elim (cases_Bool (nat_lt (key y) (key x))) [
  | inl h ↦ let less : key y < key x = ltb-true (key y) (key x) h in rw h ((above_put key (key y) x ys (omega arith) up.0, up_put key x ys up.1))
  | inr h ↦ let least : key x ≤ key y = ltb-false (key y) (key x) h in rw h (((least, above_less key (key x) (key y) ys least up.0), up))
]

up_sorted : {X : Type 0} (key : X → ℕ) (xs : List X) → Up key (sorted key xs)
up_sorted key [] = tt
up_sorted key (x ∷ xs) = up_put key x (sorted key xs) (up_sorted key xs)

-- an element of another key moves over one
swapped : {X : Type 0} (key : X → ℕ) (n : ℕ) (x y : X) (ys zs : List X) → key y < key x → filter (at key n) zs ≡ filter (at key n) (x ∷ ys) → filter (at key n) (y ∷ zs) ≡ filter (at key n) (x ∷ y ∷ ys)
swapped {X} key n x y ys zs less e = elim (cases_Bool (at key n y)) [
  | inl h ↦
      let same : n ≡ key y = eqb-true n (key y) h in
      let other : at key n x ≡ false = not_eq n (key x) (λ f. omega arith) in
      yes (at key n) y zs h ∙ ap (λ (ws : List X). y ∷ ws) (e ∙ no (at key n) x ys other) ∙ sym (yes (at key n) y ys h) ∙ sym (no (at key n) x (y ∷ ys) other)
  | inr h ↦ no (at key n) y zs h ∙ e ∙ under key n x ys (y ∷ ys) (sym (no (at key n) y ys h))
]

-- an element keeps its place among those of its key
put_filter : {X : Type 0} (key : X → ℕ) (n : ℕ) (x : X) (xs : List X) → filter (at key n) (put key x xs) ≡ filter (at key n) (x ∷ xs)
put_filter key n x [] = refl
put_filter key n x (y ∷ ys) = elim (cases_Bool (nat_lt (key y) (key x))) [
  | inl h ↦ ap (filter (at key n)) (cond-true (nat_lt (key y) (key x)) (y ∷ put key x ys) (x ∷ y ∷ ys) h) ∙ swapped key n x y ys (put key x ys) (ltb-true (key y) (key x) h) (put_filter key n x ys)
  | inr h ↦ ap (filter (at key n)) (cond-false (nat_lt (key y) (key x)) (y ∷ put key x ys) (x ∷ y ∷ ys) h)
]

sorted_filter : {X : Type 0} (key : X → ℕ) (n : ℕ) (xs : List X) → filter (at key n) (sorted key xs) ≡ filter (at key n) xs
sorted_filter key n [] = refl
sorted_filter key n (x ∷ xs) = put_filter key n x (sorted key xs) ∙ under key n x (sorted key xs) xs (sorted_filter key n xs)

-- the first of a key is no lower than what all are above
first_above : {X : Type 0} (key : X → ℕ) (m n : ℕ) (w : X) (xs ws : List X) → Above key m xs → filter (at key n) xs ≡ w ∷ ws → m ≤ n
first_above key m n w [] ws above e = absurd cc
first_above key m n w (x ∷ xs) ws above e = elim (cases_Bool (at key n x)) [
  | inl h ↦ let same : n ≡ key x = eqb-true n (key x) h in omega (arith, above.0)
  | inr h ↦ first_above key m n w xs ws above.1 (sym (no (at key n) x xs h) ∙ e)
]

-- the head of a sorted list is no higher than any key in it
head_least : {X : Type 0} (key : X → ℕ) (n : ℕ) (x w : X) (xs ws : List X) → Up key (x ∷ xs) → filter (at key n) (x ∷ xs) ≡ w ∷ ws → key x ≤ n
head_least key n x w xs ws up e = first_above key (key x) n w (x ∷ xs) ws ((omega arith, up.0)) e

reflexive : (n : ℕ) → nat_eq n n ≡ true
reflexive n = eq-eqb n n refl

-- sorted lists that agree on each key are one
pub agree : {X : Type 0} (key : X → ℕ) (xs ys : List X) → Up key xs → Up key ys → ((z : X) → filter (at key (key z)) xs ≡ filter (at key (key z)) ys) → xs ≡ ys
agree key [] [] up up' same = refl
agree key [] (y ∷ ys) up up' same = absurd (nil_cons y (filter (at key (key y)) ys) (same y ∙ yes (at key (key y)) y ys (reflexive (key y))))
agree key (x ∷ xs) [] up up' same = absurd (nil_cons x (filter (at key (key x)) xs) (sym (same x) ∙ yes (at key (key x)) x xs (reflexive (key x))))
agree {X} key (x ∷ xs) (y ∷ ys) up up' same =
    let low : key x ≤ key y = head_least key (key y) x y xs (filter (at key (key y)) ys) up (same y ∙ yes (at key (key y)) y ys (reflexive (key y))) in
    let high : key y ≤ key x = head_least key (key x) y x ys (filter (at key (key x)) xs) up' (sym (same x) ∙ yes (at key (key x)) x xs (reflexive (key x))) in
    let level : key x ≡ key y = omega arith in
    let heads : x ∷ filter (at key (key x)) xs ≡ y ∷ filter (at key (key x)) ys =
    sym (yes (at key (key x)) x xs (reflexive (key x))) ∙ same x ∙ yes (at key (key x)) y ys (eq-eqb (key x) (key y) level) in
    let one : x ≡ y = cc in
    let tails : (z : X) → filter (at key (key z)) xs ≡ filter (at key (key z)) ys = λ z. tail_agrees key (key z) x y xs ys one (same z) in
    ap (λ (z : X). z ∷ xs) one ∙ ap (λ (zs : List X). y ∷ zs) (agree key xs ys up.1 up'.1 tails)

-- what a sort says of neighbours says it of all
above_all : {X : Type 0} (key : X → ℕ) (n : ℕ) (xs : List X) → ((k : ℕ) (d : X) → k < length xs → n ≤ key (get_or xs k d)) → Above key n xs
above_all key n [] all = tt
above_all key n (x ∷ xs) all = (all 0 x (omega arith), above_all key n xs (λ k d within. all (suc k) d (omega arith)))

up_from : {X : Type 0} (key : X → ℕ) (xs : List X) → IsNonDecreasingBy key xs → Up key xs
up_from key [] rises = tt
up_from key (x ∷ xs) rises =
    (above_all key (key x) xs (λ k d within. rises 0 (suc k) d (omega arith) (omega arith)), up_from key xs (λ i j d le within. rises (suc i) (suc j) d (omega arith) (omega arith)))

level_by : (m n : ℕ) → (not (is_lt (nat_cmp m n)) && not (is_lt (nat_cmp n m))) ≡ nat_eq m n
level_by m n = grind (arith, nat_tests)

-- a stable sort by a number is the sort by insertion
pub sorted_is : {X : Type 0} (key : X → ℕ) (xs ys : List X) → IsNonDecreasingBy key ys → IsStableByKey key nat_cmp xs ys → ys ≡ sorted key xs
sorted_is {X} key xs ys rises stable =
    let level : (z x : X) → ties (λ (a b : X). is_lt (nat_cmp (key a) (key b))) z x ≡ at key (key z) x = λ z x. level_by (key z) (key x) in
    agree key ys (sorted key xs) (up_from key ys rises) (up_sorted key xs)
    (λ z. sym (same_filter (ties (λ (a b : X). is_lt (nat_cmp (key a) (key b))) z) (at key (key z)) ys (level z)) ∙ stable z ∙ same_filter (ties (λ (a b : X). is_lt (nat_cmp (key a) (key b))) z) (at key (key z)) xs (level z) ∙ sym (sorted_filter key (key z) xs))

-- ---- expressions

abbrev pub offset_of : Expr → ℕ
offset_of e = e.at

put_is : (e : Expr) (es : List Expr) → put_by_offset e es ≡ put offset_of e es
put_is e [] = refl
put_is e (first ∷ rest) = ap (λ (l : List Expr). cond (nat_lt first.at e.at) (first ∷ l) (e ∷ first ∷ rest)) (put_is e rest)

pub by_offset_is : (es : List Expr) → by_offset es ≡ sorted offset_of es
by_offset_is [] = refl
by_offset_is (e ∷ es) = put_is e (by_offset es) ∙ ap (put offset_of e) (by_offset_is es)
