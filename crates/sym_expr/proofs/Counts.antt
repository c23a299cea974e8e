-- How often an identifier stands in a list: lists are distinct where each stands there once at most.
use Rattle.std.proofs.Common.{◌≡◌, ◌≢◌, ℕ, ◌+◌, ◌≤◌, Bool, true, false, List, [], ◌∷◌, ◌++◌, refl, sym, ap, subst, arith}
use Rattle.std.specs.Prelude.{AllPairs, filter, if◌then◌else◌}
use Rattle.std.specs.List.{AllByRecursion as Every, IsDistinct, flat_map}
use Rattle.std.specs.Str.{bytes_eq}
use Rattle.std.proofs.lemmas.Slice.Eq.{bytes_eq-Decides}
use Rattle.std.proofs.lemmas.Map.Made.{AllPairs-from_IsDistinct, IsDistinct-from_AllPairs}

abbrev pub one : Bool → ℕ
one true = 1
one false = 0

-- how often an identifier stands in a list
abbrev pub times : List ℕ → List (List ℕ) → ℕ
times id [] = 0
times id (x ∷ xs) = one (bytes_eq id x) + times id xs

pub times_append : (id : List ℕ) (xs ys : List (List ℕ)) → times id (xs ++ ys) ≡ times id xs + times id ys
times_append id [] ys = omega arith
times_append id (x ∷ xs) ys = let rest = times_append id xs ys in omega (arith, rest)

pub same_id : (a b : List ℕ) → bytes_eq a b ≡ true → a ≡ b
same_id a b h = (bytes_eq-Decides a b).0 h

pub id_same : (a : List ℕ) → bytes_eq a a ≡ true
id_same a = (bytes_eq-Decides a a).1 refl

pub others_none : (x : List ℕ) (ys : List (List ℕ)) → Every (λ y. bytes_eq x y ≡ false) ys → times x ys ≡ 0
others_none x [] h = refl
others_none x (y ∷ ys) h =
    let rest = others_none x ys h.1 in
    let here : one (bytes_eq x y) ≡ 0 = ap one h.0 in
    omega (arith, rest, here)

none_others : (x : List ℕ) (ys : List (List ℕ)) → times x ys ≤ 0 → Every (λ y. bytes_eq x y ≡ false) ys
none_others x [] h = tt
none_others x (y ∷ ys) h = (none_here (bytes_eq x y) (times x ys) h, none_others x ys (omega arith))
  where
    none_here : (b : Bool) (n : ℕ) → one b + n ≤ 0 → b ≡ false
    none_here true n k = absurd (omega arith)
    none_here false n k = refl

once_more : (id x : List ℕ) (xs : List (List ℕ)) (b : Bool) → bytes_eq id x ≡ b → Every (λ y. bytes_eq x y ≡ false) xs → times id xs ≤ 1 → one b + times id xs ≤ 1
once_more id x xs true is h k =
    let none : times id xs ≡ 0 = let P : List ℕ → Type 0 = λ z. times z xs ≡ 0 in subst P (sym (same_id id x is)) (others_none x xs h) in
    omega (arith, none)
once_more id x xs false is h k = omega arith

once_of_distinct : (xs : List (List ℕ)) → IsDistinct bytes_eq xs → (id : List ℕ) → times id xs ≤ 1
unfolding IsDistinct
once_of_distinct [] d id = omega arith
once_of_distinct (x ∷ xs) d id = once_more id x xs (bytes_eq id x) refl d.0 (once_of_distinct xs d.1 id)

pub once : (xs : List (List ℕ)) → AllPairs (λ a b. a ≢ b) xs → (id : List ℕ) → times id xs ≤ 1
once xs d id = once_of_distinct xs (IsDistinct-from_AllPairs bytes_eq-Decides xs d) id

pub distinct_of_once : (xs : List (List ℕ)) → ((id : List ℕ) → times id xs ≤ 1) → IsDistinct bytes_eq xs
unfolding IsDistinct
distinct_of_once [] h = tt
distinct_of_once (x ∷ xs) h =
    let here : one (bytes_eq x x) ≡ 1 = ap one (id_same x) in
    let most = h x in
    (none_others x xs (omega (arith, here, most)), distinct_of_once xs (λ id. let all = h id in omega (arith, all)))

pub apart : (xs : List (List ℕ)) → ((id : List ℕ) → times id xs ≤ 1) → AllPairs (λ a b. a ≢ b) xs
apart xs h = AllPairs-from_IsDistinct bytes_eq-Decides xs (distinct_of_once xs h)

-- ---- joined lists

pub times_flat : {X : Type 0} (id : List ℕ) (f g : X → List (List ℕ)) (xs : List X) → Every (λ x. times id (f x) ≤ times id (g x)) xs → times id (flat_map f xs) ≤ times id (flat_map g xs)
times_flat id f g [] h = omega arith
times_flat id f g (x ∷ xs) h =
    let rest = times_flat id f g xs h.1 in
    let a = times_append id (f x) (flat_map f xs) in
    let b = times_append id (g x) (flat_map g xs) in
    let here = h.0 in
    omega (arith, rest, a, b, here)

kept_less : {X : Type 0} (id : List ℕ) (f : X → List (List ℕ)) (x : X) (b : Bool) (xs ys : List X) → times id (flat_map f ys) ≤ times id (flat_map f xs) → times id (flat_map f (if b then x ∷ ys else ys)) ≤ times id (f x) + times id (flat_map f xs)
kept_less id f x true xs ys h = let a = times_append id (f x) (flat_map f ys) in omega (arith, a)
kept_less id f x false xs ys h = omega arith

pub times_filter : {X : Type 0} (id : List ℕ) (f : X → List (List ℕ)) (test : X → Bool) (xs : List X) → times id (flat_map f (filter test xs)) ≤ times id (flat_map f xs)
times_filter id f test [] = omega arith
times_filter id f test (x ∷ xs) =
    let here = kept_less id f x (test x) xs (filter test xs) (times_filter id f test xs) in
    let a = times_append id (f x) (flat_map f xs) in
    omega (arith, here, a)
