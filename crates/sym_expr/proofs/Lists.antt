-- Facts of each element of lists that are joined, filtered or searched.
use Rattle.std.proofs.Common.{◌≡◌, ℕ, Bool, true, false, ◌||◌, List, [], ◌∷◌, ◌++◌, map, Option, Some, None, refl, ap, ◌∙◌, subst}
use Rattle.std.specs.Prelude.{filter, find, IfSome, Contains, if◌then◌else◌}
use Rattle.std.specs.List.{AllByRecursion as Every, flat_map, filter_map, cons_option, list_any}
use Rattle.std.proofs.lemmas.Bool.{or_parts, false≢true}
use Rattle.std.proofs.lemmas.Option.{none-some}
use Rattle.std.proofs.lemmas.List.Concat.{flat_map-append}
use Rattle.std.proofs.lemmas.List.Elements.{All-from_recursion, All-contains}

pub every_all : {X : Type 0} (P : X → Type 0) → ((x : X) → P x) → (xs : List X) → Every P xs
every_all P h [] = tt
every_all P h (x ∷ xs) = (h x, every_all P h xs)

pub every_weaker : {X : Type 0} (P Q : X → Type 0) → ((x : X) → P x → Q x) → (xs : List X) → Every P xs → Every Q xs
every_weaker P Q f [] h = tt
every_weaker P Q f (x ∷ xs) h = (f x h.0, every_weaker P Q f xs h.1)

pub every_both : {X : Type 0} (P Q : X → Type 0) (xs : List X) → Every P xs → Every Q xs → Every (λ x. P x × Q x) xs
every_both P Q [] h k = tt
every_both P Q (x ∷ xs) h k = ((h.0, k.0), every_both P Q xs h.1 k.1)

pub every_contained : {X : Type 0} (P : X → Type 0) (xs : List X) (x : X) → Every P xs → Contains xs x → P x
every_contained P xs x h k = All-contains P xs x (All-from_recursion P xs h) k

pub every_each : {X : Type 0} (P : ℕ → X → Type 0) (xs : List X) → ((n : ℕ) → Every (P n) xs) → Every (λ x. (n : ℕ) → P n x) xs
every_each P [] h = tt
every_each P (x ∷ xs) h = (λ n. (h n).0, every_each P xs (λ n. (h n).1))

-- ---- joined lists

pub every_append : {X : Type 0} (P : X → Type 0) (xs ys : List X) → Every P xs → Every P ys → Every P (xs ++ ys)
every_append P [] ys h k = k
every_append P (x ∷ xs) ys h k = (h.0, every_append P xs ys h.1 k)

pub every_front : {X : Type 0} (P : X → Type 0) (xs ys : List X) → Every P (xs ++ ys) → Every P xs
every_front P [] ys h = tt
every_front P (x ∷ xs) ys h = (h.0, every_front P xs ys h.1)

pub every_back : {X : Type 0} (P : X → Type 0) (xs ys : List X) → Every P (xs ++ ys) → Every P ys
every_back P [] ys h = h
every_back P (x ∷ xs) ys h = every_back P xs ys h.1

pub every_map : {X Y : Type 0} (f : X → Y) (P : Y → Type 0) (xs : List X) → Every (λ x. P (f x)) xs → Every P (map f xs)
every_map f P [] h = tt
every_map f P (x ∷ xs) h = (h.0, every_map f P xs h.1)

pub every_flat : {X Y : Type 0} (f : X → List Y) (P : Y → Type 0) (xs : List X) → Every (λ x. Every P (f x)) xs → Every P (flat_map f xs)
every_flat f P [] h = tt
every_flat f P (x ∷ xs) h = every_append P (f x) (flat_map f xs) h.0 (every_flat f P xs h.1)

pub every_part : {X Y : Type 0} (f : X → List Y) (P : Y → Type 0) (xs : List X) → Every P (flat_map f xs) → Every (λ x. Every P (f x)) xs
every_part f P [] h = tt
every_part f P (x ∷ xs) h = (every_front P (f x) (flat_map f xs) h, every_part f P xs (every_back P (f x) (flat_map f xs) h))

pub flat_flat : {X Y Z : Type 0} (f : X → List Y) (g : Y → List Z) (xs : List X) → flat_map g (flat_map f xs) ≡ flat_map (λ x. flat_map g (f x)) xs
flat_flat f g [] = refl
flat_flat f g (x ∷ xs) = flat_map-append g (f x) (flat_map f xs) ∙ ap (λ l. flat_map g (f x) ++ l) (flat_flat f g xs)

pub flat_of_map : {X Y Z : Type 0} (f : X → Y) (g : Y → List Z) (xs : List X) → flat_map g (map f xs) ≡ flat_map (λ x. g (f x)) xs
flat_of_map f g [] = refl
flat_of_map f g (x ∷ xs) = ap (λ l. g (f x) ++ l) (flat_of_map f g xs)

-- ---- kept elements

keep_if : {X : Type 0} (P : X → Type 0) (x : X) (b : Bool) (xs : List X) → (b ≡ true → P x) → Every P xs → Every P (if b then x ∷ xs else xs)
keep_if P x true xs h k = (h refl, k)
keep_if P x false xs h k = k

pub every_filter : {X : Type 0} (test : X → Bool) (P : X → Type 0) (xs : List X) → Every (λ x. test x ≡ true → P x) xs → Every P (filter test xs)
every_filter test P [] h = tt
every_filter test P (x ∷ xs) h = keep_if P x (test x) (filter test xs) h.0 (every_filter test P xs h.1)

keep_some : {Y : Type 0} (P : Y → Type 0) (o : Option Y) (ys : List Y) → IfSome o P → Every P ys → Every P (cons_option o ys)
keep_some P None ys h k = k
keep_some P (Some y) ys h k = (h, k)

pub every_filter_map : {X Y : Type 0} (f : X → Option Y) (P : Y → Type 0) (xs : List X) → Every (λ x. IfSome (f x) P) xs → Every P (filter_map f xs)
every_filter_map f P [] h = tt
every_filter_map f P (x ∷ xs) h = keep_some P (f x) (filter_map f xs) h.0 (every_filter_map f P xs h.1)

-- ---- nothing is kept

cons_not_nil : {X : Type 0} (x : X) (xs : List X) → x ∷ xs ≡ [] → ⊥
cons_not_nil x xs e = cc

no_front : {X : Type 0} (xs ys : List X) → xs ++ ys ≡ [] → xs ≡ []
no_front [] ys e = refl
no_front (x ∷ xs) ys e = absurd (cons_not_nil x (xs ++ ys) e)

no_back : {X : Type 0} (xs ys : List X) → xs ++ ys ≡ [] → ys ≡ []
no_back [] ys e = e
no_back (x ∷ xs) ys e = absurd (cons_not_nil x (xs ++ ys) e)

pub none_of_flat : {X Y : Type 0} (f : X → List Y) (xs : List X) → flat_map f xs ≡ [] → Every (λ x. f x ≡ []) xs
none_of_flat f [] e = tt
none_of_flat f (x ∷ xs) e = (no_front (f x) (flat_map f xs) e, none_of_flat f xs (no_back (f x) (flat_map f xs) e))

not_kept : {X : Type 0} (x : X) (b : Bool) (xs : List X) → (if b then x ∷ xs else xs) ≡ [] → (b ≡ false) × (xs ≡ [])
not_kept x true xs e = absurd (cons_not_nil x xs e)
not_kept x false xs e = (refl, e)

pub none_of_filter : {X : Type 0} (test : X → Bool) (xs : List X) → filter test xs ≡ [] → Every (λ x. test x ≡ false) xs
none_of_filter test [] e = tt
none_of_filter test (x ∷ xs) e =
    let both = not_kept x (test x) (filter test xs) e in
    (both.0, none_of_filter test xs both.1)

not_some : {Y : Type 0} (o : Option Y) (ys : List Y) → cons_option o ys ≡ [] → (o ≡ None) × (ys ≡ [])
not_some None ys e = (refl, e)
not_some (Some y) ys e = absurd (cons_not_nil y ys e)

pub none_of_filter_map : {X Y : Type 0} (f : X → Option Y) (xs : List X) → filter_map f xs ≡ [] → Every (λ x. f x ≡ None) xs
none_of_filter_map f [] e = tt
none_of_filter_map f (x ∷ xs) e =
    let both = not_some (f x) (filter_map f xs) e in
    (both.0, none_of_filter_map f xs both.1)

-- ---- searches

some_is : {X : Type 0} (x y : X) → ◌≡◌ {A = Option X} (Some x) (Some y) → x ≡ y
some_is x y e = cc

first_or : {X : Type 0} (test : X → Bool) (P : X → Type 0) (y : X) (ys : List X) (x : X) → P y → (b : Bool) → test y ≡ b → (find test ys ≡ Some x → (test x ≡ true) × P x) → (if b then Some y else find test ys) ≡ Some x → (test x ≡ true) × P x
first_or {X = X} test P y ys x h true is rest f = let Q : X → Type 0 = λ z. (test z ≡ true) × P z in subst Q (some_is y x f) (is, h)
first_or test P y ys x h false is rest f = rest f

-- what is found passes, and is one of them
pub found_one : {X : Type 0} (test : X → Bool) (P : X → Type 0) (xs : List X) (x : X) → Every P xs → find test xs ≡ Some x → (test x ≡ true) × P x
found_one test P [] x h e = absurd (none-some x e)
found_one test P (y ∷ ys) x h e = first_or test P y ys x h.0 (test y) refl (λ f. found_one test P ys x h.1 f) e

pub none_of_any : {X : Type 0} (test : X → Bool) (xs : List X) → list_any test xs ≡ false → Every (λ x. test x ≡ false) xs
none_of_any test [] h = tt
none_of_any test (x ∷ xs) h =
    let both = or_parts (test x) (list_any test xs) h in
    (both.0, none_of_any test xs both.1)

first_any : {X : Type 0} (test : X → Bool) (P : X → Type 0) (x : X) (b c : Bool) → test x ≡ b → P x → (c ≡ true → (y : X) × (test y ≡ true) × P y) → (b || c) ≡ true → (y : X) × (test y ≡ true) × P y
first_any test P x true c is h rest e = (x, is, h)
first_any test P x false c is h rest e = rest e

-- one that passes, where some do
pub any_one : {X : Type 0} (test : X → Bool) (P : X → Type 0) (xs : List X) → Every P xs → list_any test xs ≡ true → (y : X) × (test y ≡ true) × P y
any_one test P [] h e = absurd (false≢true e)
any_one test P (x ∷ xs) h e = first_any test P x (test x) (list_any test xs) refl h.0 (λ f. any_one test P xs h.1 f) e
