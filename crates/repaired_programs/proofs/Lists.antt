-- Facts of each element of lists, and of each pair.
use Rattle.std.proofs.Common.{◌≡◌, Bool, true, false, List, [], ◌∷◌, ◌++◌, map, Option, Some, None, refl}
use Rattle.std.specs.Prelude.{filter, IfSome, Contains, if◌then◌else◌}
use Rattle.std.specs.List.{AllByRecursion as Every, flat_map, filter_map, cons_option, list_any}
use Rattle.std.proofs.lemmas.Bool.{or_parts}
use Rattle.std.proofs.lemmas.List.Elements.{All-from_recursion, All-contains}

pub every_all : {X : Type 0} (P : X → Type 0) → ((x : X) → P x) → (xs : List X) → Every P xs
every_all P h [] = tt
every_all P h (x ∷ xs) = (h x, every_all P h xs)

pub every_weaker : {X : Type 0} (P Q : X → Type 0) → ((x : X) → P x → Q x) → (xs : List X) → Every P xs → Every Q xs
every_weaker P Q f [] h = tt
every_weaker P Q f (x ∷ xs) h = (f x h.0, every_weaker P Q f xs h.1)

pub every_both : {X : Type 0} (P Q : X → Type 0) (xs : List X) → Every P xs → Every Q xs → Every (λ x. P x × Q x) xs
every_both P Q [] h k = tt
every_both P Q (x ∷ xs) h k = ((h.0, k.0), every_both P Q xs h.1 k.1)

pub every_contained : {X : Type 0} (P : X → Type 0) (xs : List X) (x : X) → Every P xs → Contains xs x → P x
every_contained P xs x h k = All-contains P xs x (All-from_recursion P xs h) k

pub every_append : {X : Type 0} (P : X → Type 0) (xs ys : List X) → Every P xs → Every P ys → Every P (xs ++ ys)
every_append P [] ys h k = k
every_append P (x ∷ xs) ys h k = (h.0, every_append P xs ys h.1 k)

pub every_front : {X : Type 0} (P : X → Type 0) (xs ys : List X) → Every P (xs ++ ys) → Every P xs
every_front P [] ys h = tt
every_front P (x ∷ xs) ys h = (h.0, every_front P xs ys h.1)

pub every_back : {X : Type 0} (P : X → Type 0) (xs ys : List X) → Every P (xs ++ ys) → Every P ys
every_back P [] ys h = h
every_back P (x ∷ xs) ys h = every_back P xs ys h.1

pub every_map : {X Y : Type 0} (f : X → Y) (P : Y → Type 0) (xs : List X) → Every (λ x. P (f x)) xs → Every P (map f xs)
every_map f P [] h = tt
every_map f P (x ∷ xs) h = (h.0, every_map f P xs h.1)

pub every_unmap : {X Y : Type 0} (f : X → Y) (P : Y → Type 0) (xs : List X) → Every P (map f xs) → Every (λ x. P (f x)) xs
every_unmap f P [] h = tt
every_unmap f P (x ∷ xs) h = (h.0, every_unmap f P xs h.1)

pub every_flat : {X Y : Type 0} (f : X → List Y) (P : Y → Type 0) (xs : List X) → Every (λ x. Every P (f x)) xs → Every P (flat_map f xs)
every_flat f P [] h = tt
every_flat f P (x ∷ xs) h = every_append P (f x) (flat_map f xs) h.0 (every_flat f P xs h.1)

pub every_part : {X Y : Type 0} (f : X → List Y) (P : Y → Type 0) (xs : List X) → Every P (flat_map f xs) → Every (λ x. Every P (f x)) xs
every_part f P [] h = tt
every_part f P (x ∷ xs) h = (every_front P (f x) (flat_map f xs) h, every_part f P xs (every_back P (f x) (flat_map f xs) h))

keep_if : {X : Type 0} (P : X → Type 0) (x : X) (b : Bool) (xs : List X) → (b ≡ true → P x) → Every P xs → Every P (if b then x ∷ xs else xs)
keep_if P x true xs h k = (h refl, k)
keep_if P x false xs h k = k

pub every_filter : {X : Type 0} (test : X → Bool) (P : X → Type 0) (xs : List X) → Every P xs → Every P (filter test xs)
every_filter test P [] h = tt
every_filter test P (x ∷ xs) h = keep_if P x (test x) (filter test xs) (λ e. h.0) (every_filter test P xs h.1)

cons_not_nil : {X : Type 0} (x : X) (xs : List X) → x ∷ xs ≡ [] → ⊥
cons_not_nil x xs e = cc

no_front : {X : Type 0} (xs ys : List X) → xs ++ ys ≡ [] → xs ≡ []
no_front [] ys e = refl
no_front (x ∷ xs) ys e = absurd (cons_not_nil x (xs ++ ys) e)

no_back : {X : Type 0} (xs ys : List X) → xs ++ ys ≡ [] → ys ≡ []
no_back [] ys e = e
no_back (x ∷ xs) ys e = absurd (cons_not_nil x (xs ++ ys) e)

pub none_of_flat : {X Y : Type 0} (f : X → List Y) (xs : List X) → flat_map f xs ≡ [] → Every (λ x. f x ≡ []) xs
none_of_flat f [] e = tt
none_of_flat f (x ∷ xs) e = (no_front (f x) (flat_map f xs) e, none_of_flat f xs (no_back (f x) (flat_map f xs) e))

not_kept : {X : Type 0} (x : X) (b : Bool) (xs : List X) → (if b then x ∷ xs else xs) ≡ [] → (b ≡ false) × (xs ≡ [])
not_kept x true xs e = absurd (cons_not_nil x xs e)
not_kept x false xs e = (refl, e)

pub none_of_filter : {X : Type 0} (test : X → Bool) (xs : List X) → filter test xs ≡ [] → Every (λ x. test x ≡ false) xs
none_of_filter test [] e = tt
none_of_filter test (x ∷ xs) e =
    let both = not_kept x (test x) (filter test xs) e in
    (both.0, none_of_filter test xs both.1)

pub none_of_any : {X : Type 0} (test : X → Bool) (xs : List X) → list_any test xs ≡ false → Every (λ x. test x ≡ false) xs
none_of_any test [] h = tt
none_of_any test (x ∷ xs) h =
    let both = or_parts (test x) (list_any test xs) h in
    (both.0, none_of_any test xs both.1)

take_kept : {X Y : Type 0} (f : X → Option Y) (P : Y → Type 0) (o : Option Y) (ys : List Y) → Every P (cons_option o ys) → IfSome o P × Every P ys
take_kept f P None ys h = (tt, h)
take_kept f P (Some y) ys h = (h.0, h.1)

pub every_kept : {X Y : Type 0} (f : X → Option Y) (P : Y → Type 0) (xs : List X) → Every P (filter_map f xs) → Every (λ x. IfSome (f x) P) xs
every_kept f P [] h = tt
every_kept f P (x ∷ xs) h =
    let both = take_kept f P (f x) (filter_map f xs) h in
    (both.0, every_kept f P xs both.1)

-- ---- pairs

-- the relation holds of each element and each later one
abbrev pub Pairs : {X : Type 0} → (X → X → Type 0) → List X → Type 0
Pairs R [] = Unit {0}
Pairs R (x ∷ xs) = Every (R x) xs × Pairs R xs
