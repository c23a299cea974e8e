-- What is kept by identifiers, one more at a time.
use Rattle.std.proofs.Common.{◌≡◌, ℕ, ◌+◌, ◌<◌, Bool, true, false, cond, Option, Some, None, List, [], ◌∷◌, ◌++◌, length, get_or, take, find, refl, sym, ap, subst, ◌∙◌, inl, inr, append-nil}
use Rattle.std.specs.List.{filter_map, flat_map}
use Rattle.std.specs.Option.{is_some, option_map, option_or}
use Rattle.std.specs.Str.{bytes_eq}
use Rattle.std.proofs.lemmas.Bool.{cond-true, cond-false, cases_Bool}
use Rattle.std.proofs.lemmas.List.Concat.{flat_map-append}
use Rattle.std.proofs.lemmas.List.Elements.{filter_map-append}
use Rattle.std.proofs.lemmas.List.Folds.{find-append}
use Rattle.std.proofs.lemmas.Slice.Eq.{bytes_eq-Decides}
use Rattle.function_tables.proofs.Lists.{map_cond, map_or, or_assoc, or_none, taken}

module _ {V : Type 0} (id q : List ℕ) (get_of : List ℕ → Option V) (v : V) where
  some_or : (o p : Option V) → is_some o ≡ true → o ≡ option_or o p
  some_or None p h = cc
  some_or (Some x) p h = refl

  none_from : (o : Option V) → is_some o ≡ false → o ≡ None
  none_from None h = refl
  none_from (Some x) h = cc

  -- a value is kept unless one of its identifier is
  pub kept_before : is_some (get_of id) ≡ true → get_of q ≡ option_or (get_of q) (cond (bytes_eq id q) (Some v) None)
  kept_before there =
      elim (cases_Bool (bytes_eq id q)) [
        | inl same ↦
            let at : id ≡ q = (bytes_eq-Decides id q).0 same in
            some_or (get_of q) (cond (bytes_eq id q) (Some v) None) (subst (λ k. is_some (get_of k) ≡ true) at there)
        | inr other ↦ sym (ap (option_or (get_of q)) (cond-false (bytes_eq id q) (Some v) None other) ∙ or_none (get_of q))
      ]

  pub kept_new : (new : Option V) → is_some (get_of id) ≡ false → new ≡ cond (bytes_eq id q) (Some v) (get_of q) → new ≡ option_or (get_of q) (cond (bytes_eq id q) (Some v) None)
  kept_new new absent put =
      elim (cases_Bool (bytes_eq id q)) [
        | inl same ↦
            let at : id ≡ q = (bytes_eq-Decides id q).0 same in
            let none : get_of q ≡ None = none_from (get_of q) (subst (λ k. is_some (get_of k) ≡ false) at absent) in
            put ∙ cond-true (bytes_eq id q) (Some v) (get_of q) same
            ∙ sym (ap (λ o. option_or o (cond (bytes_eq id q) (Some v) None)) none ∙ cond-true (bytes_eq id q) (Some v) None same)
        | inr other ↦
            put ∙ cond-false (bytes_eq id q) (Some v) (get_of q) other
            ∙ sym (ap (option_or (get_of q)) (cond-false (bytes_eq id q) (Some v) None other) ∙ or_none (get_of q))
      ]

-- what is found among one, and among more
pub one_found : {X Y : Type 0} (f : X → Y) (test : X → Bool) (x : X) → option_map f (find test (x ∷ [])) ≡ cond (test x) (Some (f x)) None
one_found f test x = map_cond f (test x) x

pub more_found : {X Y : Type 0} (f : X → Y) (test : X → Bool) (xs ys : List X) → option_map f (find test (xs ++ ys)) ≡ option_or (option_map f (find test xs)) (option_map f (find test ys))
more_found f test xs ys = ap (option_map f) (find-append test xs ys) ∙ map_or f (find test xs) (find test ys)

-- one more value, kept as a function of it
pub added : {V X Y : Type 0} (f : V → Y) (g : X → Y) (test : X → Bool) (x : X) (v : V) (old new : Option V) (b : Bool) → test x ≡ b → f v ≡ g x
    → new ≡ option_or old (cond b (Some v) None) → option_map f new ≡ option_or (option_map f old) (option_map g (find test (x ∷ [])))
added f g test x v old new b same is put =
    ap (option_map f) put ∙ map_or f old (cond b (Some v) None)
    ∙ ap (option_or (option_map f old)) (map_cond f b v ∙ ap (λ y. cond b (Some y) None) is ∙ ap (λ c. cond c (Some (g x)) None) (sym same) ∙ sym (one_found g test x))

-- one more of what a loop goes over
pub step : {Y : Type 0} (start here new before one after : Option Y) → here ≡ option_or start before → new ≡ option_or here one → after ≡ option_or before one → new ≡ option_or start after
step start here new before one after so_far put more =
    put ∙ ap (λ o. option_or o one) so_far ∙ or_assoc start before one ∙ ap (option_or start) (sym more)

-- ---- the steps of loops over lists

pub further : {X Y : Type 0} (f : X → Y) (test : X → Bool) (xs : List X) (i : ℕ) (x : X) → i < length xs → x ≡ get_or xs i x
    → option_map f (find test (take (i + 1) xs)) ≡ option_or (option_map f (find test (take i xs))) (option_map f (find test (x ∷ [])))
further f test xs i x lt is = ap (λ l. option_map f (find test l)) (taken xs i x lt is) ∙ more_found f test (take i xs) (x ∷ [])

module _ {X Y Z : Type 0} (f : X → Y) (test : X → Bool) where
  pub filtered_further : (h : Z → Option X) (zs : List Z) (i : ℕ) (z : Z) → i < length zs → z ≡ get_or zs i z
      → option_map f (find test (filter_map h (take (i + 1) zs))) ≡ option_or (option_map f (find test (filter_map h (take i zs)))) (option_map f (find test (filter_map h (z ∷ []))))
  filtered_further h zs i z lt is =
      ap (λ l. option_map f (find test (filter_map h l))) (taken zs i z lt is)
      ∙ ap (λ l. option_map f (find test l)) (filter_map-append h (take i zs) (z ∷ []))
      ∙ more_found f test (filter_map h (take i zs)) (filter_map h (z ∷ []))

  pub both_further : (h : Z → Option X) {W : Type 0} (g : W → List Z) (ws : List W) (i : ℕ) (w : W) → i < length ws → w ≡ get_or ws i w
      → option_map f (find test (filter_map h (flat_map g (take (i + 1) ws)))) ≡ option_or (option_map f (find test (filter_map h (flat_map g (take i ws))))) (option_map f (find test (filter_map h (g w))))
  both_further h g ws i w lt is =
      ap (λ l. option_map f (find test (filter_map h (flat_map g l)))) (taken ws i w lt is)
      ∙ ap (λ l. option_map f (find test (filter_map h l))) (flat_map-append g (take i ws) (w ∷ []) ∙ ap (λ l. flat_map g (take i ws) ++ l) (append-nil (g w)))
      ∙ ap (λ l. option_map f (find test l)) (filter_map-append h (flat_map g (take i ws)) (g w))
      ∙ more_found f test (filter_map h (flat_map g (take i ws))) (filter_map h (g w))

-- one more value that is one of what it is kept of
pub added_same : {X Y : Type 0} (g : X → Y) (test : X → Bool) (x : X) (v : Y) (old new : Option Y) (b : Bool) → test x ≡ b → v ≡ g x
    → new ≡ option_or old (cond b (Some v) None) → new ≡ option_or old (option_map g (find test (x ∷ [])))
added_same g test x v old new b same is put =
    put ∙ ap (option_or old) (ap (λ y. cond b (Some y) None) is ∙ ap (λ c. cond c (Some (g x)) None) (sym same) ∙ sym (one_found g test x))
