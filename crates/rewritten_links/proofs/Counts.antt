-- How often an identifier stands in a list.
use Rattle.std.proofs.Common.{◌≡◌, ◌≢◌, ℕ, ◌+◌, ◌≤◌, ◌⊎◌, inl, inr, Bool, true, false, List, [], ◌∷◌, ◌++◌, refl, sym, ap, subst, arith}
use Rattle.std.specs.Prelude.{AllPairs}
use Rattle.std.specs.List.{flat_map}
use Rattle.std.specs.Str.{bytes_eq}
use Rattle.std.proofs.lemmas.List.Elements.{All-from_recursion}
use Rattle.std.proofs.lemmas.List.Kept.{AllPairs-cons}
use Rattle.rewritten_links.proofs.Apart.{Apart, id_same, same_id}
use Rattle.rewritten_links.proofs.Lists.{In, every_of}

abbrev pub one : Bool → ℕ
one true = 1
one false = 0

abbrev pub times : List ℕ → List (List ℕ) → ℕ
times id [] = 0
times id (x ∷ xs) = one (bytes_eq id x) + times id xs

pub times_append : (id : List ℕ) (xs ys : List (List ℕ)) → times id (xs ++ ys) ≡ times id xs + times id ys
times_append id [] ys = omega arith
times_append id (x ∷ xs) ys = let rest = times_append id xs ys in omega (arith, rest)

none_here : (b : Bool) (n : ℕ) → (b ≡ true → ⊥) → n ≡ 0 → one b + n ≡ 0
none_here true n h e = absurd (h refl)
none_here false n h e = omega (arith, e)

pub absent : (id : List ℕ) (xs : List (List ℕ)) → (In id xs → ⊥) → times id xs ≡ 0
absent id [] h = refl
absent id (x ∷ xs) h = none_here (bytes_eq id x) (times id xs) (λ e. h (inl (same_id id x e))) (absent id xs (λ k. h (inr k)))

once_here : (b : Bool) (n : ℕ) → (b ≡ true → n ≡ 0) → n ≤ 1 → one b + n ≤ 1
once_here true n h l = let none = h refl in omega (arith, none)
once_here false n h l = omega (arith, l)

pub once : (id : List ℕ) (xs : List (List ℕ)) → Apart xs → times id xs ≤ 1
once id [] h = omega arith
once id (x ∷ xs) h = once_here (bytes_eq id x) (times id xs) (λ e. absent id xs (subst (λ z. In z xs → ⊥) (sym (same_id id x e)) h.0)) (once id xs h.1)

pub present : (id : List ℕ) (xs : List (List ℕ)) → In id xs → 1 ≤ times id xs
present id [] h = absurd h
present id (x ∷ xs) (inl e) = let here : one (bytes_eq id x) ≡ 1 = ap one (id_same id x e) in omega (arith, here)
present id (x ∷ xs) (inr h) = let rest = present id xs h in omega (arith, rest)

pub apart_of_once : (xs : List (List ℕ)) → ((id : List ℕ) → times id xs ≤ 1) → Apart xs
apart_of_once [] h = tt
apart_of_once (x ∷ xs) h =
    let here : one (bytes_eq x x) ≡ 1 = ap one (id_same x x refl) in
    let most = h x in
    (λ k. absurd (let some = present x xs k in omega (arith, here, most, some)), apart_of_once xs (λ id. let all = h id in omega (arith, all)))

pub pairs_of_apart : (xs : List (List ℕ)) → Apart xs → AllPairs (λ a b. a ≢ b) xs
pairs_of_apart [] h = λ i j d lt within. absurd (omega arith)
pairs_of_apart (x ∷ xs) h =
    AllPairs-cons (λ a b. a ≢ b) x xs (All-from_recursion (λ y. x ≢ y) xs (every_of (λ y. x ≢ y) xs (λ y k e. h.0 (subst (λ w. In w xs) (sym e) k)))) (pairs_of_apart xs h.1)

either_in : (id z : List ℕ) (zs : List (List ℕ)) (b : Bool) → bytes_eq id z ≡ b → (times id zs ≡ 0) ⊎ In id zs → (one b + times id zs ≡ 0) ⊎ ((id ≡ z) ⊎ In id zs)
either_in id z zs true e o = inr (inl (same_id id z e))
either_in id z zs false e (inl n) = inl (omega (arith, n))
either_in id z zs false e (inr l) = inr (inr l)

none_or_in : (id : List ℕ) (zs : List (List ℕ)) → (times id zs ≡ 0) ⊎ In id zs
none_or_in id [] = inl refl
none_or_in id (z ∷ zs) = either_in id z zs (bytes_eq id z) refl (none_or_in id zs)

-- what is distinct, in two lists that share nothing, is there once at most
pub once_in_both : (id : List ℕ) (xs ys : List (List ℕ)) → Apart xs → Apart ys → ((z : List ℕ) → In z xs → In z ys → ⊥) → times id xs + times id ys ≤ 1
once_in_both id xs ys h k share = at (none_or_in id xs)
  where
    at : (times id xs ≡ 0) ⊎ In id xs → times id xs + times id ys ≤ 1
    at (inl none) = let most = once id ys k in omega (arith, none, most)
    at (inr l) =
        let none = absent id ys (λ n. share id l n) in
        let most = once id xs h in
        omega (arith, none, most)

-- ---- joined lists

pub flat_less : {X : Type 0} (id : List ℕ) (f g : X → List (List ℕ)) (xs : List X) → ((x : X) → In x xs → times id (f x) ≤ times id (g x)) → times id (flat_map f xs) ≤ times id (flat_map g xs)
flat_less id f g [] h = omega arith
flat_less id f g (x ∷ xs) h =
    let rest = flat_less id f g xs (λ y k. h y (inr k)) in
    let a = times_append id (f x) (flat_map f xs) in
    let b = times_append id (g x) (flat_map g xs) in
    let here = h x (inl refl) in
    omega (arith, rest, a, b, here)

pub flat_sum : {X : Type 0} (id : List ℕ) (f g h : X → List (List ℕ)) (xs : List X) → ((x : X) → In x xs → times id (f x) ≤ times id (g x) + times id (h x)) → times id (flat_map f xs) ≤ times id (flat_map g xs) + times id (flat_map h xs)
flat_sum id f g h [] less = omega arith
flat_sum id f g h (x ∷ xs) less =
    let rest = flat_sum id f g h xs (λ y k. less y (inr k)) in
    let a = times_append id (f x) (flat_map f xs) in
    let b = times_append id (g x) (flat_map g xs) in
    let c = times_append id (h x) (flat_map h xs) in
    let here = less x (inl refl) in
    omega (arith, rest, a, b, c, here)
