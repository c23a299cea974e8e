-- What holds of all elements of lists, and of all pairs.
use Rattle.std.proofs.Common.{◌≡◌, zero, suc, List, [], ◌∷◌, ◌++◌, map, refl, ap, ◌∙◌, arith}
use Rattle.std.specs.List.{AllByRecursion as Every, AllPairs, flat_map}
use Rattle.std.specs.Prelude.{Contains}
use Rattle.std.proofs.lemmas.List.Elements.{recursion_from_All, All-from_recursion, All-contains}

module _ {X : Type 0} where
  abbrev pub Pairs : (X → X → Type 0) → List X → Type 0
  Pairs R [] = Unit {0}
  Pairs R (x ∷ xs) = Every (R x) xs × Pairs R xs

  pub pairs_from : (R : X → X → Type 0) (xs : List X) → AllPairs R xs → Pairs R xs
  pairs_from R [] h = tt
  pairs_from R (x ∷ xs) h = (
    recursion_from_All (R x) xs (λ j d lt. h zero (suc j) d (omega arith) (omega arith)),
    pairs_from R xs (λ i j d lt within. h (suc i) (suc j) d (omega arith) (omega arith)),
  )

  pub every_weaker : (P Q : X → Type 0) → ((x : X) → P x → Q x) → (xs : List X) → Every P xs → Every Q xs
  every_weaker P Q f [] h = tt
  every_weaker P Q f (x ∷ xs) h = (f x h.0, every_weaker P Q f xs h.1)

  pub every_both : (P Q : X → Type 0) (xs : List X) → Every P xs → Every Q xs → Every (λ x. P x × Q x) xs
  every_both P Q [] h k = tt
  every_both P Q (x ∷ xs) h k = ((h.0, k.0), every_both P Q xs h.1 k.1)

  pub every_contained : (P : X → Type 0) (xs : List X) (x : X) → Every P xs → Contains xs x → P x
  every_contained P xs x h k = All-contains P xs x (All-from_recursion P xs h) k

  pub every_front : (P : X → Type 0) (xs ys : List X) → Every P (xs ++ ys) → Every P xs
  every_front P [] ys h = tt
  every_front P (x ∷ xs) ys h = (h.0, every_front P xs ys h.1)

  pub every_back : (P : X → Type 0) (xs ys : List X) → Every P (xs ++ ys) → Every P ys
  every_back P [] ys h = h
  every_back P (x ∷ xs) ys h = every_back P xs ys h.1

  pub pairs_front : (R : X → X → Type 0) (xs ys : List X) → Pairs R (xs ++ ys) → Pairs R xs
  pairs_front R [] ys h = tt
  pairs_front R (x ∷ xs) ys h = (every_front (R x) xs ys h.0, pairs_front R xs ys h.1)

  pub pairs_back : (R : X → X → Type 0) (xs ys : List X) → Pairs R (xs ++ ys) → Pairs R ys
  pairs_back R [] ys h = h
  pairs_back R (x ∷ xs) ys h = pairs_back R xs ys h.1

pub every_of_map : {X Y : Type 0} (f : X → Y) (P : Y → Type 0) (xs : List X) → Every P (map f xs) → Every (λ x. P (f x)) xs
every_of_map f P [] h = tt
every_of_map f P (x ∷ xs) h = (h.0, every_of_map f P xs h.1)

-- of each of the lists that are joined
pub every_part : {X Y : Type 0} (f : X → List Y) (P : Y → Type 0) (xs : List X) → Every P (flat_map f xs) → Every (λ x. Every P (f x)) xs
every_part f P [] h = tt
every_part f P (x ∷ xs) h = (every_front P (f x) (flat_map f xs) h, every_part f P xs (every_back P (f x) (flat_map f xs) h))

pub pairs_part : {X Y : Type 0} (f : X → List Y) (R : Y → Y → Type 0) (xs : List X) → Pairs R (flat_map f xs) → Every (λ x. Pairs R (f x)) xs
pairs_part f R [] h = tt
pairs_part f R (x ∷ xs) h = (pairs_front R (f x) (flat_map f xs) h, pairs_part f R xs (pairs_back R (f x) (flat_map f xs) h))

-- joined lists are the same where their parts are
pub flat_same : {X Y : Type 0} (f g : X → List Y) (xs : List X) → Every (λ x. f x ≡ g x) xs → flat_map f xs ≡ flat_map g xs
flat_same f g [] h = refl
flat_same f g (x ∷ xs) h = ap (λ l. l ++ flat_map f xs) h.0 ∙ ap (λ l. g x ++ l) (flat_same f g xs h.1)
