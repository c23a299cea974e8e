-- Lists in which no element stands twice.
use Rattle.std.proofs.Common.{◌≡◌, ◌≢◌, ℕ, zero, suc, ◌<◌, ◌≤◌, List, [], ◌∷◌, ◌++◌, length, get_or, map, sym, ap, ◌∙◌, subst, arith}
use Rattle.std.specs.Prelude.{AllPairs}
use Rattle.std.specs.List.{AllByRecursion, flat_map}
use Rattle.std.proofs.lemmas.List.Elements.{Contains-get_or}
use Rattle.node_arena.proofs.Members.{All-In, In-All}
use Rattle.node_arena.proofs.RefLaws.{All-join}
use Rattle.node_arena.proofs.RefMembers.{first_apart, rest_apart}

abbrev pub Other : {A : Type 0} → A → List A → Type 0
Other x ys = AllByRecursion (λ y. x ≢ y) ys

abbrev pub Apart : {A : Type 0} → List A → Type 0
Apart [] = Unit {0}
Apart (x ∷ xs) = Other x xs × Apart xs

pub All-weak : {A : Type 0} (P Q : A → Type 0) (xs : List A) → ((x : A) → P x → Q x) → AllByRecursion P xs → AllByRecursion Q xs
All-weak P Q [] f h = tt
All-weak P Q (x ∷ xs) f h = (f x h.0, All-weak P Q xs f h.1)

pub apart-join : {A : Type 0} (xs ys : List A) → Apart xs → Apart ys → AllByRecursion (λ x. Other x ys) xs → Apart (xs ++ ys)
apart-join [] ys a b c = b
apart-join (x ∷ xs) ys a b c = (All-join (λ y. x ≢ y) xs ys a.0 c.0, apart-join xs ys a.1 b c.1)

-- elements of lower rank are others than those of higher rank
pub ranked-other : {A : Type 0} (rank : A → ℕ) (n : ℕ) (x : A) (ys : List A) → rank x < n → AllByRecursion (λ y. n ≤ rank y) ys → Other x ys
ranked-other rank n x ys l h = All-weak (λ y. n ≤ rank y) (λ y. x ≢ y) ys (λ y k e. let same : rank x ≡ rank y = ap rank e in absurd (omega arith)) h

pub apart-ranked : {A : Type 0} (rank : A → ℕ) (n : ℕ) (xs ys : List A) → Apart xs → Apart ys → AllByRecursion (λ x. rank x < n) xs → AllByRecursion (λ y. n ≤ rank y) ys
    → Apart (xs ++ ys)
apart-ranked rank n xs ys a b h k = apart-join xs ys a b (All-weak (λ x. rank x < n) (λ x. Other x ys) xs (λ x l. ranked-other rank n x ys l k) h)

-- lists whose elements have the key of their list
other-keys : {X Y : Type 0} (f : X → List Y) (key : Y → ℕ) (of : X → ℕ) (y : Y) (xs : List X)
    → Other (key y) (map of xs) → AllByRecursion (λ x. AllByRecursion (λ z. key z ≡ of x) (f x)) xs → Other y (flat_map f xs)
other-keys f key of y [] o h = tt
other-keys f key of y (x ∷ xs) o h =
    All-join (λ z. y ≢ z) (f x) (flat_map f xs)
    (All-weak (λ z. key z ≡ of x) (λ z. y ≢ z) (f x) (λ z k e. o.0 (ap key e ∙ k)) h.0)
    (other-keys f key of y xs o.1 h.1)

pub apart-flat : {X Y : Type 0} (f : X → List Y) (key : Y → ℕ) (of : X → ℕ) (xs : List X)
    → AllByRecursion (λ x. Apart (f x)) xs → AllByRecursion (λ x. AllByRecursion (λ y. key y ≡ of x) (f x)) xs → Apart (map of xs) → Apart (flat_map f xs)
apart-flat f key of [] a k d = tt
apart-flat f key of (x ∷ xs) a k d =
    apart-join (f x) (flat_map f xs) a.0 (apart-flat f key of xs a.1 k.1 d.1)
    (All-weak (λ y. key y ≡ of x) (λ y. Other y (flat_map f xs)) (f x)
    (λ y e. other-keys f key of y xs (subst (λ n. Other n (map of xs)) (sym e) d.0) k.1) k.0)

pub apart-mapped : {A B : Type 0} (P : A → Type 0) (f : A → B) (xs : List A) → ((x y : A) → P x → P y → f x ≡ f y → x ≡ y) → AllByRecursion P xs → Apart xs → Apart (map f xs)
apart-mapped P f [] one h a = tt
apart-mapped {A = A} P f (x ∷ xs) one h a = (other xs h.1 a.0, apart-mapped P f xs one h.1 a.1)
  where
    other : (ys : List A) → AllByRecursion P ys → Other x ys → Other (f x) (map f ys)
    other [] p o = tt
    other (y ∷ ys) p o = (λ e. o.0 (one x y h.0 p.0 e), other ys p.1 o.1)

-- elements that are made of distinct numbers
pub apart-wrapped : {I B : Type 0} (place : I → ℕ) (wrap : I → B) (key : B → ℕ) (ids : List I) → ((i : I) → key (wrap i) ≡ place i) → Apart (map place ids) → Apart (map wrap ids)
apart-wrapped place wrap key [] k a = tt
apart-wrapped {I = I} place wrap key (i ∷ is) k a = (other is a.0, apart-wrapped place wrap key is k a.1)
  where
    other : (js : List I) → Other (place i) (map place js) → Other (wrap i) (map wrap js)
    other [] o = tt
    other (j ∷ js) o = (λ e. o.0 (sym (k i) ∙ ap key e ∙ k j), other js o.1)

pub apart-pairs : {A : Type 0} (xs : List A) → Apart xs → AllPairs (λ a b. a ≢ b) xs
apart-pairs [] h i j d l m = absurd (omega arith)
apart-pairs (x ∷ xs) h zero zero d l m = absurd (omega arith)
apart-pairs (x ∷ xs) h zero (suc j) d l m = let w : j < length xs = omega arith in All-In (λ y. x ≢ y) xs (get_or xs j d) h.0 (Contains-get_or xs j d w)
apart-pairs (x ∷ xs) h (suc i) zero d l m = absurd (omega arith)
apart-pairs (x ∷ xs) h (suc i) (suc j) d l m = apart-pairs xs h.1 i j d (omega arith) (omega arith)

pub pairs-apart : {A : Type 0} (xs : List A) → AllPairs (λ a b. a ≢ b) xs → Apart xs
pairs-apart [] h = tt
pairs-apart (x ∷ xs) h = (In-All (λ y. x ≢ y) xs (first_apart x xs h), pairs-apart xs (rest_apart x xs h))
