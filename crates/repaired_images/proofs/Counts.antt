-- How often an identifier stands in a list.
use Rattle.std.proofs.Common.{◌≡◌, ◌≢◌, ℕ, ◌+◌, ◌≤◌, inl, inr, Bool, true, false, List, [], ◌∷◌, ◌++◌, refl, sym, ap, subst, arith}
use Rattle.std.specs.Prelude.{AllPairs}
use Rattle.std.specs.Str.{bytes_eq}
use Rattle.std.proofs.lemmas.List.Elements.{All-from_recursion}
use Rattle.std.proofs.lemmas.List.Kept.{AllPairs-cons}
use Rattle.repaired_images.proofs.Apart.{Apart, id_same, same_id}
use Rattle.repaired_images.proofs.Lists.{In, every_of}

abbrev pub one : Bool → ℕ
one true = 1
one false = 0

abbrev pub times : List ℕ → List (List ℕ) → ℕ
times id [] = 0
times id (x ∷ xs) = one (bytes_eq id x) + times id xs

pub times_append : (id : List ℕ) (xs ys : List (List ℕ)) → times id (xs ++ ys) ≡ times id xs + times id ys
times_append id [] ys = omega arith
times_append id (x ∷ xs) ys = let rest = times_append id xs ys in omega (arith, rest)

none_here : (b : Bool) (n : ℕ) → (b ≡ true → ⊥) → n ≡ 0 → one b + n ≡ 0
none_here true n h e = absurd (h refl)
none_here false n h e = omega (arith, e)

pub absent : (id : List ℕ) (xs : List (List ℕ)) → (In id xs → ⊥) → times id xs ≡ 0
absent id [] h = refl
absent id (x ∷ xs) h = none_here (bytes_eq id x) (times id xs) (λ e. h (inl (same_id id x e))) (absent id xs (λ k. h (inr k)))

once_here : (b : Bool) (n : ℕ) → (b ≡ true → n ≡ 0) → n ≤ 1 → one b + n ≤ 1
once_here true n h l = let none = h refl in omega (arith, none)
once_here false n h l = omega (arith, l)

pub once : (id : List ℕ) (xs : List (List ℕ)) → Apart xs → times id xs ≤ 1
once id [] h = omega arith
once id (x ∷ xs) h = once_here (bytes_eq id x) (times id xs) (λ e. absent id xs (subst (λ z. In z xs → ⊥) (sym (same_id id x e)) h.0)) (once id xs h.1)

pub present : (id : List ℕ) (xs : List (List ℕ)) → In id xs → 1 ≤ times id xs
present id [] h = absurd h
present id (x ∷ xs) (inl e) = let here : one (bytes_eq id x) ≡ 1 = ap one (id_same id x e) in omega (arith, here)
present id (x ∷ xs) (inr h) = let rest = present id xs h in omega (arith, rest)

pub apart_of_once : (xs : List (List ℕ)) → ((id : List ℕ) → times id xs ≤ 1) → Apart xs
apart_of_once [] h = tt
apart_of_once (x ∷ xs) h =
    let here : one (bytes_eq x x) ≡ 1 = ap one (id_same x x refl) in
    let most = h x in
    (λ k. absurd (let some = present x xs k in omega (arith, here, most, some)), apart_of_once xs (λ id. let all = h id in omega (arith, all)))

pub pairs_of_apart : (xs : List (List ℕ)) → Apart xs → AllPairs (λ a b. a ≢ b) xs
pairs_of_apart [] h = λ i j d lt within. absurd (omega arith)
pairs_of_apart (x ∷ xs) h =
    AllPairs-cons (λ a b. a ≢ b) x xs (All-from_recursion (λ y. x ≢ y) xs (every_of (λ y. x ≢ y) xs (λ y k e. h.0 (subst (λ w. In w xs) (sym e) k)))) (pairs_of_apart xs h.1)
