-- Distinct elements of a list: the first and those behind it, and those of lists in it.
use Rattle.std.proofs.Common.{◌≡◌, ℕ, zero, suc, ◌+◌, ◌<◌, List, [], ◌∷◌, ◌++◌, length, get_or, sym, subst, arith}
use Rattle.std.specs.Prelude.{AllPairs}
use Rattle.std.specs.List.{AllByRecursion, flat_map}
use Rattle.std.proofs.lemmas.List.{get_or_append_left, get_or-append-add, length-append}

each_of : {X : Type 0} (P : X → Type 0) (xs : List X) → ((j : ℕ) (d : X) → j < length xs → P (get_or xs j d)) → AllByRecursion P xs
each_of P [] h = tt
each_of P (x ∷ xs) h = (h 0 x (omega arith), each_of P xs (λ j d within. h (suc j) d (omega arith)))

pub first_apart : {X : Type 0} (R : X → X → Type 0) (x : X) (xs : List X) → AllPairs R (x ∷ xs) → AllByRecursion (R x) xs
first_apart R x xs apart = each_of (R x) xs (λ j d within. apart 0 (suc j) d (omega arith) (omega arith))

pub rest_apart : {X : Type 0} (R : X → X → Type 0) (x : X) (xs : List X) → AllPairs R (x ∷ xs) → AllPairs R xs
rest_apart R x xs apart = λ i j d before within. apart (suc i) (suc j) d (omega arith) (omega arith)

front_apart : {X : Type 0} (R : X → X → Type 0) (xs ys : List X) → AllPairs R (xs ++ ys) → AllPairs R xs
front_apart {X} R xs ys apart = λ i j d before within.
    let longer = length-append xs ys in
    let both : R (get_or (xs ++ ys) i d) (get_or (xs ++ ys) j d) = apart i j d before (omega (arith, longer)) in
    let first : R (get_or xs i d) (get_or (xs ++ ys) j d) = subst (λ (x : X). R x (get_or (xs ++ ys) j d)) (get_or_append_left xs ys d i (omega arith)) both in
    subst (λ (x : X). R (get_or xs i d) x) (get_or_append_left xs ys d j within) first

back_apart : {X : Type 0} (R : X → X → Type 0) (xs ys : List X) → AllPairs R (xs ++ ys) → AllPairs R ys
back_apart R [] ys apart = apart
back_apart R (x ∷ xs) ys apart = back_apart R xs ys (rest_apart R x (xs ++ ys) apart)

pub parts_apart : {X Y : Type 0} (R : Y → Y → Type 0) (g : X → List Y) (xs : List X) → AllPairs R (flat_map g xs) → AllByRecursion (λ (x : X). AllPairs R (g x)) xs
parts_apart R g [] apart = tt
parts_apart R g (x ∷ xs) apart = (front_apart R (g x) (flat_map g xs) apart, parts_apart R g xs (back_apart R (g x) (flat_map g xs) apart))
