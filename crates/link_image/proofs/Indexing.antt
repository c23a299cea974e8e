-- Steps of the loops that index intervals and blocks.
use Rattle.std.proofs.Common.{◌≡◌, ℕ, suc, ◌-◌, ◌<◌, ◌≤◌, Bool, true, false, cond, ltb, Option, Some, None, List, [], ◌∷◌, ◌++◌, length, get_or, drop, filter, find, map, sum_by, Result, Ok, Err, OnOk, refl, sym, ap, subst, ◌∙◌, inl, inr, arith}
use Rattle.std.specs.Option.{option_or, is_some}
use Rattle.std.specs.List.Sorted.{IsPermutation}
use Rattle.std.specs.Str.{bytes_eq}
use Rattle.std.proofs.lemmas.Bool.{cond-true, cond-false, cases_Bool}
use Rattle.std.proofs.lemmas.List.Sorted.{sum_by-IsPermutation}
use Rattle.std.proofs.lemmas.List.Sums.{sum_by-cons}
use Rattle.std.proofs.lemmas.Slice.Eq.{bytes_eq-Decides}
use Rattle.sym_expr.specs.declared.layout.PlaceAt.{PlaceAt}
use Rattle.sym_expr.specs.declared.program.Word.{Word}
use Rattle.sym_expr.specs.Images.{is_block}
use Rattle.sym_expr.specs.Layouts.{place_in}
use Rattle.sym_expr.specs.Placing.{Placed}
use Rattle.link_image.specs.declared.blocks.BlockAt.{BlockAt}
use Rattle.link_image.specs.Ready.{Describes, Keeps, KeepsAll}
use Rattle.link_image.proofs.Lists.{split_before}

-- one more place, before those that are put in
pub place_before : (places : List PlaceAt) (left : ℕ) (p : PlaceAt) (id : List ℕ) (old new : Option ℕ) → 0 < left → left ≤ length places → p ≡ get_or places (left - 1) p
    → new ≡ cond (bytes_eq p.interval id) (Some p.at) old → old ≡ place_in (drop left places) id → new ≡ place_in (drop (left - 1) places) id
place_before places left p id old new some within is put so_far =
    put ∙ ap (cond (bytes_eq p.interval id) (Some p.at)) so_far ∙ sym (ap (λ ps. place_in ps id) (split_before places left p some within is))

-- ---- counts

abbrev one_of : Bool → ℕ
one_of v = cond v 1 0

count_is_sum : (p : ℕ → Bool) (ns : List ℕ) → length (filter p ns) ≡ sum_by (λ n. one_of (p n)) ns
count_is_sum p [] = refl
count_is_sum p (n ∷ ns) =
    let rest = count_is_sum p ns in
    let sum = sum_by-cons (λ (m : ℕ). one_of (p m)) n ns in
    elim (cases_Bool (p n)) [
      | inl holds ↦
          let kept : length (filter p (n ∷ ns)) ≡ suc (length (filter p ns)) = ap length (cond-true (p n) (n ∷ filter p ns) (filter p ns) holds) in
          let one : one_of (p n) ≡ 1 = ap one_of holds in omega arith
      | inr fails ↦
          let kept : length (filter p (n ∷ ns)) ≡ length (filter p ns) = ap length (cond-false (p n) (n ∷ filter p ns) (filter p ns) fails) in
          let none : one_of (p n) ≡ 0 = ap one_of fails in omega arith
    ]

pub count_permuted : (p : ℕ → Bool) (ns ms : List ℕ) → IsPermutation ns ms → length (filter p ms) ≡ length (filter p ns)
count_permuted p ns ms same = count_is_sum p ms ∙ sum_by-IsPermutation (λ n. one_of (p n)) ns ms same ∙ sym (count_is_sum p ns)

pub count_offsets : (bound : ℕ) (ws : List (ℕ × Word)) → length (filter (λ n. ltb n bound) (map (λ (w : ℕ × Word). w.0) ws)) ≡ length (filter (λ (w : ℕ × Word). ltb w.0 bound) ws)
count_offsets bound [] = refl
count_offsets bound (w ∷ ws) =
    let left = filter (λ n. ltb n bound) (map (λ (w : ℕ × Word). w.0) ws) in
    let right = filter (λ (w : ℕ × Word). ltb w.0 bound) ws in
    elim (cases_Bool (ltb w.0 bound)) [
      | inl holds ↦
          let kept : length (filter (λ n. ltb n bound) (map (λ (w : ℕ × Word). w.0) (w ∷ ws))) ≡ suc (length left) = ap length (cond-true (ltb w.0 bound) (w.0 ∷ left) left holds) in
          kept ∙ ap suc (count_offsets bound ws) ∙ sym (ap length (cond-true (ltb w.0 bound) (w ∷ right) right holds))
      | inr fails ↦ ap length (cond-false (ltb w.0 bound) (w.0 ∷ left) left fails) ∙ count_offsets bound ws ∙ sym (ap length (cond-false (ltb w.0 bound) (w ∷ right) right fails))
    ]

-- ---- blocks

-- a block is kept unless one of its identifier is
pub kept_before : (o : Option BlockAt) (id q : List ℕ) (get_of : List ℕ → Option BlockAt) (b : BlockAt) → is_some (get_of id) ≡ true → get_of q ≡ option_or (get_of q) (cond (bytes_eq id q) (Some b) None)
kept_before o id q get_of b there =
    elim (cases_Bool (bytes_eq id q)) [
      | inl same ↦
          let at : id ≡ q = (bytes_eq-Decides id q).0 same in
          some_or (get_of q) (cond (bytes_eq id q) (Some b) None) (subst (λ k. is_some (get_of k) ≡ true) at there)
      | inr other ↦ sym (ap (option_or (get_of q)) (cond-false (bytes_eq id q) (Some b) None other) ∙ or_none (get_of q))
    ]
  where
    some_or : (o p : Option BlockAt) → is_some o ≡ true → o ≡ option_or o p
    some_or None p h = cc
    some_or (Some x) p h = refl

    or_none : (o : Option BlockAt) → option_or o None ≡ o
    or_none None = refl
    or_none (Some x) = refl

pub kept_new : (id q : List ℕ) (get_of : List ℕ → Option BlockAt) (b : BlockAt) (new : Option BlockAt) → is_some (get_of id) ≡ false → new ≡ cond (bytes_eq id q) (Some b) (get_of q)
    → new ≡ option_or (get_of q) (cond (bytes_eq id q) (Some b) None)
kept_new id q get_of b new absent put =
    elim (cases_Bool (bytes_eq id q)) [
      | inl same ↦
          let at : id ≡ q = (bytes_eq-Decides id q).0 same in
          let none : get_of q ≡ None = none_from (get_of q) (subst (λ k. is_some (get_of k) ≡ false) at absent) in
          put ∙ cond-true (bytes_eq id q) (Some b) (get_of q) same
          ∙ sym (ap (λ o. option_or o (cond (bytes_eq id q) (Some b) None)) none ∙ cond-true (bytes_eq id q) (Some b) None same)
      | inr other ↦
          put ∙ cond-false (bytes_eq id q) (Some b) (get_of q) other
          ∙ sym (ap (option_or (get_of q)) (cond-false (bytes_eq id q) (Some b) None other) ∙ or_none (get_of q))
    ]
  where
    none_from : (o : Option BlockAt) → is_some o ≡ false → o ≡ None
    none_from None h = refl
    none_from (Some x) h = cc

    or_none : (o : Option BlockAt) → option_or o None ≡ o
    or_none None = refl
    or_none (Some x) = refl

find-push : (test : Placed → Bool) (xs : List Placed) (x : Placed) → find test (xs ++ x ∷ []) ≡ option_or (find test xs) (cond (test x) (Some x) None)
find-push test [] x = refl
find-push test (y ∷ ys) x =
    elim (cases_Bool (test y)) [
      | inl holds ↦
          cond-true (test y) (Some y) (find test (ys ++ x ∷ [])) holds
          ∙ sym (ap (λ o. option_or o (cond (test x) (Some x) None)) (cond-true (test y) (Some y) (find test ys) holds))
      | inr fails ↦
          cond-false (test y) (Some y) (find test (ys ++ x ∷ [])) fails ∙ find-push test ys x
          ∙ sym (ap (λ o. option_or o (cond (test x) (Some x) None)) (cond-false (test y) (Some y) (find test ys) fails))
    ]

keeps_one : (f : Option Placed) (o : Option BlockAt) (v : Bool) (x : Placed) (b : BlockAt) → Describes x b → Keeps f o → Keeps (option_or f (cond v (Some x) None)) (option_or o (cond v (Some b) None))
keeps_one None None true x b is h = is
keeps_one None None false x b is h = tt
keeps_one None (Some c) v x b is h = absurd h
keeps_one (Some y) None v x b is h = absurd h
keeps_one (Some y) (Some c) v x b is h = h

pub keeps_added : (before : List Placed) (x : Placed) (id : List ℕ) (b : BlockAt) (old new : List ℕ → Option BlockAt) → ((q : List ℕ) → is_block q x.piece ≡ bytes_eq id q) → Describes x b
    → ((q : List ℕ) → new q ≡ option_or (old q) (cond (bytes_eq id q) (Some b) None)) → KeepsAll before old → KeepsAll (before ++ x ∷ []) new
keeps_added before x id b old new named is put h = λ q.
    let test = λ (y : Placed). is_block q y.piece in
    let found : find test (before ++ x ∷ []) ≡ option_or (find test before) (cond (bytes_eq id q) (Some x) None) =
    find-push test before x ∙ ap (λ v. option_or (find test before) (cond v (Some x) None)) (named q) in
    subst (λ f. Keeps f (new q)) (sym found) (subst (Keeps (option_or (find test before) (cond (bytes_eq id q) (Some x) None))) (sym (put q)) (keeps_one (find test before) (old q) (bytes_eq id q) x b is (h q)))

or_none_placed : (o : Option Placed) → option_or o None ≡ o
or_none_placed None = refl
or_none_placed (Some x) = refl

-- what is no block is not kept
pub keeps_passed : (before : List Placed) (x : Placed) (old : List ℕ → Option BlockAt) → ((q : List ℕ) → is_block q x.piece ≡ false) → KeepsAll before old → KeepsAll (before ++ x ∷ []) old
keeps_passed before x old none h = λ q.
    let test = λ (y : Placed). is_block q y.piece in
    let found : find test (before ++ x ∷ []) ≡ find test before =
    find-push test before x ∙ ap (λ v. option_or (find test before) (cond v (Some x) None)) (none q) ∙ or_none_placed (find test before) in
    subst (λ f. Keeps f (old q)) (sym found) (h q)

eq_true : (a b : List ℕ) → bytes_eq a b ≡ true → bytes_eq b a ≡ true
eq_true a b e = (bytes_eq-Decides b a).1 (sym ((bytes_eq-Decides a b).0 e))

pub eq_swap : (a b : List ℕ) → bytes_eq a b ≡ bytes_eq b a
eq_swap a b =
    elim (cases_Bool (bytes_eq a b)) [
      | inl holds ↦ holds ∙ sym (eq_true a b holds)
      | inr fails ↦
          elim (cases_Bool (bytes_eq b a)) [
            | inl back ↦ let clash = sym fails ∙ eq_true b a back in cc
            | inr not_back ↦ fails ∙ sym not_back
          ]
    ]

-- what follows where a call was Ok
pub on_ok : {T E P Q : Type 0} (r : Result T E) → (P → Q) → OnOk r P → OnOk r Q
on_ok (Ok x) f h = f h
on_ok (Err e) f h = h
