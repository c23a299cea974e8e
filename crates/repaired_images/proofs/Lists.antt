-- Elements of lists that are joined, mapped or filtered.
use Rattle.std.proofs.Common.{◌≡◌, zero, suc, ◌⊎◌, inl, inr, Bool, true, false, List, [], ◌∷◌, ◌++◌, map, Option, Some, None, refl, sym, ap, subst, ◌∙◌, arith}
use Rattle.std.specs.Prelude.{filter, find, Contains, if◌then◌else◌}
use Rattle.std.specs.List.{AllByRecursion as Every, cons_option, filter_map, flat_map}
use Rattle.std.proofs.lemmas.Bool.{false≢true}
use Rattle.std.proofs.lemmas.Option.{none-some, same_Some}

-- an element of a list
abbrev pub In : {A : Type 0} → A → List A → Type 0
In x [] = ⊥
In x (y ∷ ys) = (x ≡ y) ⊎ In x ys

pub in_front : {A : Type 0} (x : A) (xs ys : List A) → In x xs → In x (xs ++ ys)
in_front x [] ys h = absurd h
in_front x (y ∷ xs) ys (inl e) = inl e
in_front x (y ∷ xs) ys (inr h) = inr (in_front x xs ys h)

pub in_back : {A : Type 0} (x : A) (xs ys : List A) → In x ys → In x (xs ++ ys)
in_back x [] ys h = h
in_back x (y ∷ xs) ys h = inr (in_back x xs ys h)

pub in_either : {A : Type 0} (x : A) (xs ys : List A) → In x (xs ++ ys) → In x xs ⊎ In x ys
in_either x [] ys h = inr h
in_either x (y ∷ xs) ys (inl e) = inl (inl e)
in_either x (y ∷ xs) ys (inr h) = in_rest (in_either x xs ys h)
  where
    in_rest : In x xs ⊎ In x ys → In x (y ∷ xs) ⊎ In x ys
    in_rest (inl a) = inl (inr a)
    in_rest (inr b) = inr b

pub in_map : {A B : Type 0} (f : A → B) (x : A) (xs : List A) → In x xs → In (f x) (map f xs)
in_map f x [] h = absurd h
in_map f x (y ∷ xs) (inl e) = inl (ap f e)
in_map f x (y ∷ xs) (inr h) = inr (in_map f x xs h)

pub out_map : {A B : Type 0} (f : A → B) (y : B) (xs : List A) → In y (map f xs) → (x : A) × In x xs × (y ≡ f x)
out_map f y [] h = absurd h
out_map f y (x ∷ xs) (inl e) = (x, inl refl, e)
out_map f y (x ∷ xs) (inr h) = let rest = out_map f y xs h in (rest.0, inr rest.1, rest.2)

pub in_flat : {A B : Type 0} (f : A → List B) (x : A) (y : B) (xs : List A) → In x xs → In y (f x) → In y (flat_map f xs)
in_flat f x y [] h k = absurd h
in_flat f x y (z ∷ xs) (inl e) k = in_front y (f z) (flat_map f xs) (subst (λ w. In y (f w)) e k)
in_flat f x y (z ∷ xs) (inr h) k = in_back y (f z) (flat_map f xs) (in_flat f x y xs h k)

pub out_flat : {A B : Type 0} (f : A → List B) (y : B) (xs : List A) → In y (flat_map f xs) → (x : A) × In x xs × In y (f x)
out_flat f y [] h = absurd h
out_flat {A = A} f y (x ∷ xs) h = at (out_flat f y xs) (in_either y (f x) (flat_map f xs) h)
  where
    at : (In y (flat_map f xs) → (z : A) × In z xs × In y (f z)) → In y (f x) ⊎ In y (flat_map f xs) → (z : A) × In z (x ∷ xs) × In y (f z)
    at more (inl k) = (x, inl refl, k)
    at more (inr k) = let rest = more k in (rest.0, inr rest.1, rest.2)

kept_in : {A : Type 0} (x y : A) (b : Bool) (ys : List A) → (x ≡ y → b ≡ true) → (x ≡ y) ⊎ In x ys → In x (if b then y ∷ ys else ys)
kept_in x y true ys h k = k
kept_in x y false ys h (inl e) = absurd (false≢true (h e))
kept_in x y false ys h (inr k) = k

pub in_filter : {A : Type 0} (test : A → Bool) (x : A) (xs : List A) → test x ≡ true → In x xs → In x (filter test xs)
in_filter test x [] h k = absurd k
in_filter test x (y ∷ xs) h (inl e) = kept_in x y (test y) (filter test xs) (λ d. ap test (sym d) ∙ h) (inl e)
in_filter test x (y ∷ xs) h (inr k) = kept_in x y (test y) (filter test xs) (λ d. ap test (sym d) ∙ h) (inr (in_filter test x xs h k))

out_kept : {A : Type 0} (test : A → Bool) (x y : A) (b : Bool) (xs ys : List A) → test y ≡ b → (In x ys → In x xs × (test x ≡ true)) → In x (if b then y ∷ ys else ys) → In x (y ∷ xs) × (test x ≡ true)
out_kept test x y true xs ys e f (inl d) = (inl d, ap test d ∙ e)
out_kept test x y true xs ys e f (inr k) = let rest = f k in (inr rest.0, rest.1)
out_kept test x y false xs ys e f k = let rest = f k in (inr rest.0, rest.1)

pub out_filter : {A : Type 0} (test : A → Bool) (x : A) (xs : List A) → In x (filter test xs) → In x xs × (test x ≡ true)
out_filter test x [] h = absurd h
out_filter test x (y ∷ xs) h = out_kept test x y (test y) xs (filter test xs) refl (out_filter test x xs) h

in_some : {A : Type 0} (y : A) (o : Option A) (ys : List A) → (o ≡ Some y) ⊎ In y ys → In y (cons_option o ys)
in_some y None ys (inl e) = absurd (none-some y e)
in_some y None ys (inr h) = h
in_some y (Some z) ys (inl e) = inl (sym (same_Some z y e))
in_some y (Some z) ys (inr h) = inr h

pub in_filter_map : {A B : Type 0} (f : A → Option B) (x : A) (y : B) (xs : List A) → In x xs → f x ≡ Some y → In y (filter_map f xs)
in_filter_map f x y [] h e = absurd h
in_filter_map f x y (z ∷ xs) (inl d) e = in_some y (f z) (filter_map f xs) (inl (ap f (sym d) ∙ e))
in_filter_map f x y (z ∷ xs) (inr h) e = in_some y (f z) (filter_map f xs) (inr (in_filter_map f x y xs h e))

out_some : {A : Type 0} (y : A) (o : Option A) (ys : List A) → In y (cons_option o ys) → (o ≡ Some y) ⊎ In y ys
out_some y None ys h = inr h
out_some y (Some z) ys (inl e) = inl (ap Some (sym e))
out_some y (Some z) ys (inr h) = inr h

pub out_filter_map : {A B : Type 0} (f : A → Option B) (y : B) (xs : List A) → In y (filter_map f xs) → (x : A) × In x xs × (f x ≡ Some y)
out_filter_map f y [] h = absurd h
out_filter_map {A = A} f y (x ∷ xs) h = at (out_filter_map f y xs) (out_some y (f x) (filter_map f xs) h)
  where
    at : (In y (filter_map f xs) → (z : A) × In z xs × (f z ≡ Some y)) → (f x ≡ Some y) ⊎ In y (filter_map f xs) → (z : A) × In z (x ∷ xs) × (f z ≡ Some y)
    at more (inl e) = (x, inl refl, e)
    at more (inr k) = let rest = more k in (rest.0, inr rest.1, rest.2)

pub of_every : {A : Type 0} (P : A → Type 0) (x : A) (xs : List A) → Every P xs → In x xs → P x
of_every P x [] all h = absurd h
of_every P x (y ∷ xs) all (inl e) = subst P (sym e) all.0
of_every P x (y ∷ xs) all (inr h) = of_every P x xs all.1 h

pub every_of : {A : Type 0} (P : A → Type 0) (xs : List A) → ((x : A) → In x xs → P x) → Every P xs
every_of P [] h = tt
every_of P (x ∷ xs) h = (h x (inl refl), every_of P xs (λ y k. h y (inr k)))

pub in_contained : {A : Type 0} (x : A) (xs : List A) → Contains xs x → In x xs
in_contained x [] h = absurd (omega (arith, h.1))
in_contained x (y ∷ xs) (zero, l, e) = inl (sym e)
in_contained x (y ∷ xs) (suc k, l, e) = inr (in_contained x xs (k, omega (arith, l), e))

pub contained_in : {A : Type 0} (x : A) (xs : List A) → In x xs → Contains xs x
contained_in x [] h = absurd h
contained_in x (y ∷ xs) (inl e) = (zero, omega arith, sym e)
contained_in x (y ∷ xs) (inr h) = let rest = contained_in x xs h in let lt = rest.1 in (suc rest.0, omega (arith, lt), rest.2)

first_found : {A : Type 0} (test : A → Bool) (x y : A) (b : Bool) (ys : List A) → test y ≡ b → (find test ys ≡ Some x → In x ys × (test x ≡ true)) → (if b then Some y else find test ys) ≡ Some x → In x (y ∷ ys) × (test x ≡ true)
first_found test x y true ys is f e = let same = same_Some y x e in (inl (sym same), ap test (sym same) ∙ is)
first_found test x y false ys is f e = let rest = f e in (inr rest.0, rest.1)

-- what is found is an element that passes
pub found_in : {A : Type 0} (test : A → Bool) (x : A) (xs : List A) → find test xs ≡ Some x → In x xs × (test x ≡ true)
found_in test x [] e = absurd (none-some x e)
found_in test x (y ∷ ys) e = first_found test x y (test y) ys refl (found_in test x ys) e

some_found : {A : Type 0} (test : A → Bool) (y : A) (b : Bool) (ys : List A) → test y ≡ b → (x : A) → test x ≡ true → (x ≡ y) ⊎ ((z : A) × (find test ys ≡ Some z)) → (z : A) × ((if b then Some y else find test ys) ≡ Some z)
some_found test y true ys is x e h = (y, refl)
some_found test y false ys is x e (inl d) = absurd (false≢true (sym is ∙ ap test (sym d) ∙ e))
some_found test y false ys is x e (inr h) = h

-- where an element passes, one is found
pub found_some : {A : Type 0} (test : A → Bool) (x : A) (xs : List A) → In x xs → test x ≡ true → (z : A) × (find test xs ≡ Some z)
found_some test x [] h e = absurd h
found_some test x (y ∷ ys) (inl d) e = some_found test y (test y) ys refl x e (inl d)
found_some test x (y ∷ ys) (inr h) e = some_found test y (test y) ys refl x e (inr (found_some test x ys h e))
