-- The first of a list that is made of others.
use Rattle.std.proofs.Common.{◌≡◌, ℕ, zero, suc, ◌≤◌, length, take, arith, Bool, true, false, cond, List, [], ◌∷◌, ◌++◌, map, Option, None, Some, refl, sym, ap, ◌∙◌}
use Rattle.std.specs.Prelude.{filter, find}
use Rattle.std.specs.List.{flat_map, filter_map, cons_option}
use Rattle.std.specs.Option.{option_map, option_or}
use Rattle.ir_check.specs.Faults.{first}
use Rattle.ir_check.specs.Spans.{first_in, only_if}

pub take_whole : {X : Type 0} (xs : List X) (n : ℕ) → length xs ≤ n → take n xs ≡ xs
take_whole [] zero le = refl
take_whole [] (suc n) le = refl
take_whole (x ∷ xs) zero le = absurd (omega arith)
take_whole {X} (x ∷ xs) (suc n) le = ap (λ (ys : List X). x ∷ ys) (take_whole xs n (omega arith))

pub or_none : {Y : Type 0} (a : Option Y) → option_or a None ≡ a
or_none None = refl
or_none (Some y) = refl

pub or_assoc : {Y : Type 0} (a b c : Option Y) → option_or (option_or a b) c ≡ option_or a (option_or b c)
or_assoc None b c = refl
or_assoc (Some a) b c = refl

first_append : {Y : Type 0} (xs ys : List Y) → first (xs ++ ys) ≡ option_or (first xs) (first ys)
first_append [] ys = refl
first_append (x ∷ xs) ys = refl

pub first_flat : {X Y : Type 0} (f : X → List Y) (xs : List X) → first (flat_map f xs) ≡ first_in (λ x. first (f x)) xs
first_flat f [] = refl
first_flat f (x ∷ xs) = first_append (f x) (flat_map f xs) ∙ ap (option_or (first (f x))) (first_flat f xs)

first_cond : {X : Type 0} (b : Bool) (x : X) (ys : List X) → first (cond b (x ∷ ys) ys) ≡ cond b (Some x) (first ys)
first_cond true x ys = refl
first_cond false x ys = refl

pub first_filter : {X : Type 0} (p : X → Bool) (xs : List X) → first (filter p xs) ≡ find p xs
first_filter p [] = refl
first_filter {X} p (x ∷ xs) = first_cond (p x) x (filter p xs) ∙ ap (λ (o : Option X). cond (p x) (Some x) o) (first_filter p xs)

first_cons : {Y : Type 0} (o : Option Y) (ys : List Y) → first (cons_option o ys) ≡ option_or o (first ys)
first_cons None ys = refl
first_cons (Some y) ys = refl

pub first_filter_map : {X Y : Type 0} (f : X → Option Y) (xs : List X) → first (filter_map f xs) ≡ first_in f xs
first_filter_map f [] = refl
first_filter_map f (x ∷ xs) = first_cons (f x) (filter_map f xs) ∙ ap (option_or (f x)) (first_filter_map f xs)

pub first_map : {X Y : Type 0} (f : X → Y) (xs : List X) → first (map f xs) ≡ option_map f (first xs)
first_map f [] = refl
first_map f (x ∷ xs) = refl

pub first_in-map : {X Y Z : Type 0} (f : Y → Option Z) (h : X → Y) (xs : List X) → first_in f (map h xs) ≡ first_in (λ x. f (h x)) xs
first_in-map f h [] = refl
first_in-map f h (x ∷ xs) = ap (option_or (f (h x))) (first_in-map f h xs)

pub first_in-same : {X Y : Type 0} (f h : X → Option Y) → ((x : X) → f x ≡ h x) → (xs : List X) → first_in f xs ≡ first_in h xs
first_in-same f h same [] = refl
first_in-same {X} {Y} f h same (x ∷ xs) = ap (λ (o : Option Y). option_or o (first_in f xs)) (same x) ∙ ap (option_or (h x)) (first_in-same f h same xs)

map_or : {Y Z : Type 0} (k : Y → Z) (a b : Option Y) → option_map k (option_or a b) ≡ option_or (option_map k a) (option_map k b)
map_or k None b = refl
map_or k (Some a) b = refl

pub map_first_in : {X Y Z : Type 0} (k : Y → Z) (f : X → Option Y) (xs : List X) → option_map k (first_in f xs) ≡ first_in (λ x. option_map k (f x)) xs
map_first_in k f [] = refl
map_first_in k f (x ∷ xs) = map_or k (f x) (first_in f xs) ∙ ap (option_or (option_map k (f x))) (map_first_in k f xs)

found_cond : {X Y : Type 0} (k : X → Y) (b : Bool) (x : X) (o : Option X) → option_map k (cond b (Some x) o) ≡ option_or (only_if b (k x)) (option_map k o)
found_cond k true x o = refl
found_cond k false x o = refl

-- the first for which a test holds
pub map_find : {X Y : Type 0} (k : X → Y) (p : X → Bool) (xs : List X) → option_map k (find p xs) ≡ first_in (λ x. only_if (p x) (k x)) xs
map_find k p [] = refl
map_find k p (x ∷ xs) = found_cond k (p x) x (find p xs) ∙ ap (option_or (only_if (p x) (k x))) (map_find k p xs)

find_cond : {X Y Z : Type 0} (k : Y → Z) (h : X → Y) (b : Bool) (x : X) (o : Option Y) (q : Option X) → option_map k o ≡ option_map (λ x. k (h x)) q → option_map k (cond b (Some (h x)) o) ≡ option_map (λ x. k (h x)) (cond b (Some x) q)
find_cond k h true x o q e = refl
find_cond k h false x o q e = e

pub find-map : {X Y Z : Type 0} (k : Y → Z) (p : Y → Bool) (h : X → Y) (xs : List X) → option_map k (find p (map h xs)) ≡ option_map (λ x. k (h x)) (find (λ x. p (h x)) xs)
find-map k p h [] = refl
find-map k p h (x ∷ xs) = find_cond k h (p (h x)) x (find p (map h xs)) (find (λ x. p (h x)) xs) (find-map k p h xs)

pub map_map : {X Y Z : Type 0} (k : Y → Z) (h : X → Y) (o : Option X) → option_map k (option_map h o) ≡ option_map (λ x. k (h x)) o
map_map k h None = refl
map_map k h (Some x) = refl

-- the first for which a test holds, found along the list or along what it is seen as
pub found_as : {X Y Z W : Type 0} (k : Z → W) (u : Y → Z) (p : Y → Bool) (h : X → Y) (xs : List X) → option_map k (first_in (λ x. only_if (p (h x)) (u (h x))) xs) ≡ option_map (λ y. k (u y)) (first (filter p (map h xs)))
found_as k u p h xs =
    ap (option_map k) (sym (map_find (λ x. u (h x)) (λ x. p (h x)) xs))
    ∙ map_map k (λ x. u (h x)) (find (λ x. p (h x)) xs)
    ∙ sym (find-map (λ y. k (u y)) p h xs)
    ∙ ap (option_map (λ y. k (u y))) (sym (first_filter p (map h xs)))
