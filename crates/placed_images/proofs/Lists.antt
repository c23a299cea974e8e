-- Lists: what holds of all, of each two, and of what a search finds.
use Rattle.std.proofs.Common.{◌≡◌, zero, suc, Bool, true, false, Option, Some, None, List, [], ◌∷◌, ◌++◌, map, refl, ap, subst, ◌∙◌, ◌⊎◌, inl, inr, arith}
use Rattle.std.specs.Prelude.{find, filter, IfSome, if◌then◌else◌, AllPairs}
use Rattle.std.specs.List.{AllByRecursion as Every, flat_map, filter_map, cons_option}
use Rattle.std.proofs.lemmas.List.Concat.{flat_map-append}
use Rattle.std.proofs.lemmas.List.Elements.{recursion_from_All}
use Rattle.std.proofs.lemmas.Option.{none-some}

-- ---- of each

pub every_weaker : {X : Type 0} (P Q : X → Type 0) → ((x : X) → P x → Q x) → (xs : List X) → Every P xs → Every Q xs
every_weaker P Q f [] h = tt
every_weaker P Q f (x ∷ xs) h = (f x h.0, every_weaker P Q f xs h.1)

pub every_both : {X : Type 0} (P Q : X → Type 0) (xs : List X) → Every P xs → Every Q xs → Every (λ x. P x × Q x) xs
every_both P Q [] h k = tt
every_both P Q (x ∷ xs) h k = ((h.0, k.0), every_both P Q xs h.1 k.1)

pub every_append : {X : Type 0} (P : X → Type 0) (xs ys : List X) → Every P xs → Every P ys → Every P (xs ++ ys)
every_append P [] ys h k = k
every_append P (x ∷ xs) ys h k = (h.0, every_append P xs ys h.1 k)

pub every_front : {X : Type 0} (P : X → Type 0) (xs ys : List X) → Every P (xs ++ ys) → Every P xs
every_front P [] ys h = tt
every_front P (x ∷ xs) ys h = (h.0, every_front P xs ys h.1)

pub every_back : {X : Type 0} (P : X → Type 0) (xs ys : List X) → Every P (xs ++ ys) → Every P ys
every_back P [] ys h = h
every_back P (x ∷ xs) ys h = every_back P xs ys h.1

pub every_map : {X Y : Type 0} (f : X → Y) (P : Y → Type 0) (xs : List X) → Every (λ x. P (f x)) xs → Every P (map f xs)
every_map f P [] h = tt
every_map f P (x ∷ xs) h = (h.0, every_map f P xs h.1)

pub every_mapped : {X Y : Type 0} (f : X → Y) (P : Y → Type 0) (xs : List X) → Every P (map f xs) → Every (λ x. P (f x)) xs
every_mapped f P [] h = tt
every_mapped f P (x ∷ xs) h = (h.0, every_mapped f P xs h.1)

pub every_flat : {X Y : Type 0} (f : X → List Y) (P : Y → Type 0) (xs : List X) → Every (λ x. Every P (f x)) xs → Every P (flat_map f xs)
every_flat f P [] h = tt
every_flat f P (x ∷ xs) h = every_append P (f x) (flat_map f xs) h.0 (every_flat f P xs h.1)

pub every_part : {X Y : Type 0} (f : X → List Y) (P : Y → Type 0) (xs : List X) → Every P (flat_map f xs) → Every (λ x. Every P (f x)) xs
every_part f P [] h = tt
every_part f P (x ∷ xs) h = (every_front P (f x) (flat_map f xs) h, every_part f P xs (every_back P (f x) (flat_map f xs) h))

add_some : {Y : Type 0} (P : Y → Type 0) (o : Option Y) (ys : List Y) → IfSome o P → Every P ys → Every P (cons_option o ys)
add_some P None ys h k = k
add_some P (Some y) ys h k = (h, k)

-- all chosen have what the one chosen of each has
pub every_choice : {X Y : Type 0} (f : X → Option Y) (P : Y → Type 0) (xs : List X) → Every (λ x. IfSome (f x) P) xs → Every P (filter_map f xs)
every_choice f P [] h = tt
every_choice f P (x ∷ xs) h = add_some P (f x) (filter_map f xs) h.0 (every_choice f P xs h.1)

pub every_all : {X : Type 0} (P : X → Type 0) → ((x : X) → P x) → (xs : List X) → Every P xs
every_all P h [] = tt
every_all P h (x ∷ xs) = (h x, every_all P h xs)

keep_if : {X : Type 0} (P : X → Type 0) (x : X) (b : Bool) (xs : List X) → P x → Every P xs → Every P (if b then x ∷ xs else xs)
keep_if P x true xs h k = (h, k)
keep_if P x false xs h k = k

pub every_filter : {X : Type 0} (test : X → Bool) (P : X → Type 0) (xs : List X) → Every P xs → Every P (filter test xs)
every_filter test P [] h = tt
every_filter test P (x ∷ xs) h = keep_if P x (test x) (filter test xs) h.0 (every_filter test P xs h.1)

-- ---- searches

pub some_is : {X : Type 0} (x y : X) → ◌≡◌ {A = Option X} (Some x) (Some y) → x ≡ y
some_is x y e = cc

first_or : {X : Type 0} (test : X → Bool) (P : X → Type 0) (y : X) (ys : List X) (x : X) → P y → (b : Bool) → test y ≡ b → (find test ys ≡ Some x → (test x ≡ true) × P x) → (if b then Some y else find test ys) ≡ Some x → (test x ≡ true) × P x
first_or {X = X} test P y ys x h true is rest f = let Q : X → Type 0 = λ z. (test z ≡ true) × P z in subst Q (some_is y x f) (is, h)
first_or test P y ys x h false is rest f = rest f

-- what is found passes, and is one of them
pub found_one : {X : Type 0} (test : X → Bool) (P : X → Type 0) (xs : List X) (x : X) → Every P xs → find test xs ≡ Some x → (test x ≡ true) × P x
found_one test P [] x h e = absurd (none-some x e)
found_one test P (y ∷ ys) x h e = first_or test P y ys x h.0 (test y) refl (λ f. found_one test P ys x h.1 f) e

mapped_or : {X Y : Type 0} (f : X → Y) (test : Y → Bool) (x : X) (xs : List X) (y : Y) (b : Bool) → (find test (map f xs) ≡ Some y → (z : X) × (find (λ v. test (f v)) xs ≡ Some z) × (f z ≡ y))
    → (if b then Some (f x) else find test (map f xs)) ≡ Some y → (z : X) × ((if b then Some x else find (λ v. test (f v)) xs) ≡ Some z) × (f z ≡ y)
mapped_or f test x xs y true rest e = (x, refl, some_is (f x) y e)
mapped_or f test x xs y false rest e = rest e

-- a search among the images of a list
pub found_mapped : {X Y : Type 0} (f : X → Y) (test : Y → Bool) (xs : List X) (y : Y) → find test (map f xs) ≡ Some y → (z : X) × (find (λ v. test (f v)) xs ≡ Some z) × (f z ≡ y)
found_mapped f test [] y e = absurd (none-some y e)
found_mapped f test (x ∷ xs) y e = mapped_or f test x xs y (test (f x)) (found_mapped f test xs y) e

pub flat_flat : {X Y Z : Type 0} (f : X → List Y) (g : Y → List Z) (xs : List X) → flat_map g (flat_map f xs) ≡ flat_map (λ x. flat_map g (f x)) xs
flat_flat f g [] = refl
flat_flat f g (x ∷ xs) = flat_map-append g (f x) (flat_map f xs) ∙ ap (λ l. flat_map g (f x) ++ l) (flat_flat f g xs)

-- ---- of each two

module _ {X : Type 0} where
  abbrev pub Pairs : (X → X → Type 0) → List X → Type 0
  Pairs R [] = Unit {0}
  Pairs R (x ∷ xs) = Every (R x) xs × Pairs R xs

  pub pairs_from : (R : X → X → Type 0) (xs : List X) → AllPairs R xs → Pairs R xs
  pairs_from R [] h = tt
  pairs_from R (x ∷ xs) h = (
    recursion_from_All (R x) xs (λ j d lt. h zero (suc j) d (omega arith) (omega arith)),
    pairs_from R xs (λ i j d lt within. h (suc i) (suc j) d (omega arith) (omega arith)),
  )

  pub pairs_front : (R : X → X → Type 0) (xs ys : List X) → Pairs R (xs ++ ys) → Pairs R xs
  pairs_front R [] ys h = tt
  pairs_front R (x ∷ xs) ys h = (every_front (R x) xs ys h.0, pairs_front R xs ys h.1)

  pub pairs_back : (R : X → X → Type 0) (xs ys : List X) → Pairs R (xs ++ ys) → Pairs R ys
  pairs_back R [] ys h = h
  pairs_back R (x ∷ xs) ys h = pairs_back R xs ys h.1

  pub pairs_across : (R : X → X → Type 0) (xs ys : List X) → Pairs R (xs ++ ys) → Every (λ x. Every (R x) ys) xs
  pairs_across R [] ys h = tt
  pairs_across R (x ∷ xs) ys h = (every_back (R x) xs ys h.0, pairs_across R xs ys h.1)

  pub pairs_append : (R : X → X → Type 0) (xs ys : List X) → Pairs R xs → Every (λ x. Every (R x) ys) xs → Pairs R ys → Pairs R (xs ++ ys)
  pairs_append R [] ys h across k = k
  pairs_append R (x ∷ xs) ys h across k = (every_append (R x) xs ys h.0 across.0, pairs_append R xs ys h.1 across.1 k)

  -- each two are the same or stand so to each other, where that is so both ways
  abbrev pub SameOr : (X → X → Type 0) → X → X → Type 0
  SameOr R x y = (x ≡ y) ⊎ R x y

  with_first : (R : X → X → Type 0) → ((x y : X) → R x y → R y x) → (x : X) (xs ys : List X) → Every (R x) xs → Every (λ y. Every (SameOr R y) ys) xs → Every (λ y. Every (SameOr R y) (x ∷ ys)) xs
  with_first R turn x [] ys h k = tt
  with_first R turn x (y ∷ xs) ys h k = ((inr (turn x y h.0), k.0), with_first R turn x xs ys h.1 k.1)

  pub each_two : (R : X → X → Type 0) → ((x y : X) → R x y → R y x) → (xs : List X) → Pairs R xs → Every (λ x. Every (SameOr R x) xs) xs
  each_two R turn [] h = tt
  each_two R turn (x ∷ xs) h = (
    (inl refl, every_weaker (R x) (SameOr R x) (λ y r. inr r) xs h.0),
    with_first R turn x xs xs h.0 (each_two R turn xs h.1),
  )

pub pairs_map : {X Y : Type 0} (f : X → Y) (R : Y → Y → Type 0) (xs : List X) → Pairs (λ x y. R (f x) (f y)) xs → Pairs R (map f xs)
pairs_map f R [] h = tt
pairs_map f R (x ∷ xs) h = (every_map f (R (f x)) xs h.0, pairs_map f R xs h.1)

pub pairs_last : {X : Type 0} (R : X → X → Type 0) (xs : List X) (y : X) → Pairs R (xs ++ y ∷ []) → Every (λ x. R x y) xs
pairs_last R [] y h = tt
pairs_last R (x ∷ xs) y h = ((every_back (R x) xs (y ∷ []) h.0).0, pairs_last R xs y h.1)

pub pairs_mapped : {X Y : Type 0} (f : X → Y) (R : Y → Y → Type 0) (xs : List X) → Pairs R (map f xs) → Pairs (λ x y. R (f x) (f y)) xs
pairs_mapped f R [] h = tt
pairs_mapped f R (x ∷ xs) h = (every_mapped f (R (f x)) xs h.0, pairs_mapped f R xs h.1)
