-- Lists without repeats.
use Rattle.std.proofs.Common.{◌≡◌, ◌≢◌, ℕ, inl, inr, Bool, true, false, List, [], ◌∷◌, ◌++◌, map, Option, Some, None, refl, sym, ap, subst, ◌∙◌}
use Rattle.std.specs.Prelude.{AllPairs, if◌then◌else◌}
use Rattle.std.specs.List.{AllByRecursion as Every, IsDistinct, flat_map, list_any}
use Rattle.std.specs.Str.{bytes_eq}
use Rattle.std.proofs.lemmas.Bool.{or_parts, both_ways}
use Rattle.std.proofs.lemmas.Option.{none-some}
use Rattle.std.proofs.lemmas.Map.Made.{IsDistinct-from_AllPairs}
use Rattle.std.proofs.lemmas.Slice.Eq.{bytes_eq-Decides}
use Rattle.gt_model.specs.Linked.{repeated}
use Rattle.repaired_images.proofs.Lists.{In, in_back, in_front, in_flat, in_map}

-- no element comes twice
abbrev pub Apart : {A : Type 0} → List A → Type 0
Apart [] = Unit {0}
Apart (x ∷ xs) = (In x xs → ⊥) × Apart xs

pub apart_front : {A : Type 0} (xs ys : List A) → Apart (xs ++ ys) → Apart xs
apart_front [] ys h = tt
apart_front (x ∷ xs) ys h = (λ k. h.0 (in_front x xs ys k), apart_front xs ys h.1)

pub apart_back : {A : Type 0} (xs ys : List A) → Apart (xs ++ ys) → Apart ys
apart_back [] ys h = h
apart_back (x ∷ xs) ys h = apart_back xs ys h.1

pub apart_both : {A : Type 0} (z : A) (xs ys : List A) → Apart (xs ++ ys) → In z xs → In z ys → ⊥
apart_both z [] ys h a b = absurd a
apart_both z (x ∷ xs) ys h (inl e) b = h.0 (in_back x xs ys (subst (λ w. In w ys) e b))
apart_both z (x ∷ xs) ys h (inr a) b = apart_both z xs ys h.1 a b

-- one element's part has no repeats
pub apart_one : {X A : Type 0} (f : X → List A) (x : X) (xs : List X) → Apart (flat_map f xs) → In x xs → Apart (f x)
apart_one f x [] h k = absurd k
apart_one f x (y ∷ xs) h (inl e) = subst (λ w. Apart (f w)) (sym e) (apart_front (f y) (flat_map f xs) h)
apart_one f x (y ∷ xs) h (inr k) = apart_one f x xs (apart_back (f y) (flat_map f xs) h) k

-- what two elements have, is of one
pub one_holder : {X A : Type 0} (f : X → List A) (x y : X) (z : A) (xs : List X) → Apart (flat_map f xs) → In x xs → In y xs → In z (f x) → In z (f y) → x ≡ y
one_holder f x y z [] h a b k l = absurd a
one_holder f x y z (w ∷ ws) h (inl e) (inl d) k l = e ∙ sym d
one_holder f x y z (w ∷ ws) h (inl e) (inr b) k l = absurd (apart_both z (f w) (flat_map f ws) h (subst (λ v. In z (f v)) e k) (in_flat f y z ws b l))
one_holder f x y z (w ∷ ws) h (inr a) (inl d) k l = absurd (apart_both z (f w) (flat_map f ws) h (subst (λ v. In z (f v)) d l) (in_flat f x z ws a k))
one_holder f x y z (w ∷ ws) h (inr a) (inr b) k l = one_holder f x y z ws (apart_back (f w) (flat_map f ws) h) a b k l

-- a key is of one element
pub one_of_key : {X A : Type 0} (f : X → A) (x y : X) (xs : List X) → Apart (map f xs) → In x xs → In y xs → f x ≡ f y → x ≡ y
one_of_key f x y [] h a b e = absurd a
one_of_key f x y (w ∷ ws) h (inl d) (inl c) e = d ∙ sym c
one_of_key f x y (w ∷ ws) h (inl d) (inr b) e = absurd (h.0 (subst (λ v. In v (map f ws)) (sym e ∙ ap f d) (in_map f y ws b)))
one_of_key f x y (w ∷ ws) h (inr a) (inl c) e = absurd (h.0 (subst (λ v. In v (map f ws)) (e ∙ ap f c) (in_map f x ws a)))
one_of_key f x y (w ∷ ws) h (inr a) (inr b) e = one_of_key f x y ws h.1 a b e

-- ---- identifiers

pub same_id : (a b : List ℕ) → bytes_eq a b ≡ true → a ≡ b
same_id a b h = (bytes_eq-Decides a b).0 h

pub id_same : (a b : List ℕ) → a ≡ b → bytes_eq a b ≡ true
id_same a b e = (bytes_eq-Decides a b).1 e

not_held : (x : List ℕ) (ys : List (List ℕ)) → Every (λ y. bytes_eq x y ≡ false) ys → In x ys → ⊥
not_held x [] h k = absurd k
not_held x (y ∷ ys) h (inl e) = both_ways (bytes_eq x y) h.0 (id_same x y e)
not_held x (y ∷ ys) h (inr k) = not_held x ys h.1 k

apart_of_distinct : (xs : List (List ℕ)) → IsDistinct bytes_eq xs → Apart xs
unfolding IsDistinct
apart_of_distinct [] d = tt
apart_of_distinct (x ∷ xs) d = (not_held x xs d.0, apart_of_distinct xs d.1)

pub apart_of_pairs : (xs : List (List ℕ)) → AllPairs (λ a b. a ≢ b) xs → Apart xs
apart_of_pairs xs h = apart_of_distinct xs (IsDistinct-from_AllPairs bytes_eq-Decides xs h)

none_here : (b : Bool) (x : List ℕ) (o : Option (List ℕ)) → (if b then Some x else o) ≡ None → (b ≡ false) × (o ≡ None)
none_here true x o h = absurd (none-some x (sym h))
none_here false x o h = (refl, h)

any_held : (x : List ℕ) (ys : List (List ℕ)) → list_any (bytes_eq x) ys ≡ false → In x ys → ⊥
any_held x [] h k = absurd k
any_held x (y ∷ ys) h (inl e) = both_ways (bytes_eq x y) (or_parts (bytes_eq x y) (list_any (bytes_eq x) ys) h).0 (id_same x y e)
any_held x (y ∷ ys) h (inr k) = any_held x ys (or_parts (bytes_eq x y) (list_any (bytes_eq x) ys) h).1 k

-- where none is an earlier one, none comes twice, and none is among the earlier ones
pub none_repeated : (earlier xs : List (List ℕ)) → repeated earlier xs ≡ None → Apart xs × ((z : List ℕ) → In z xs → In z earlier → ⊥)
none_repeated earlier [] h = (tt, λ z k l. absurd k)
none_repeated earlier (x ∷ xs) h =
    let first = none_here (list_any (bytes_eq x) earlier) x (repeated (x ∷ earlier) xs) h in
    let rest = none_repeated (x ∷ earlier) xs first.1 in
    ((λ k. rest.1 x k (inl refl), rest.0), neither first.0 rest.1)
  where
    neither : list_any (bytes_eq x) earlier ≡ false → ((z : List ℕ) → In z xs → In z (x ∷ earlier) → ⊥) → (z : List ℕ) → In z (x ∷ xs) → In z earlier → ⊥
    neither none rest z (inl e) l = any_held x earlier none (subst (λ w. In w earlier) e l)
    neither none rest z (inr k) l = rest z k (inr l)
