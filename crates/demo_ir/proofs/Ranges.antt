-- Lists over the numbers below a bound, one more at a time.
use Rattle.std.proofs.Common.{◌≡◌, ℕ, ◌+◌, List, [], ◌∷◌, ◌++◌, map, refl, sym, ap, ◌∙◌, append-nil, arith}
use Rattle.std.specs.Prelude.{sum_by}
use Rattle.std.specs.List.{flat_map, range_with_len}
use Rattle.std.proofs.lemmas.Grind.{flat_map-append}
use Rattle.std.proofs.lemmas.List.FromFn.{map-range_with_len_more, sum_by-map-range_with_len_more}

pub map_more : {X : Type 0} (f : ℕ → X) (n : ℕ) → map f (range_with_len 0 (n + 1)) ≡ map f (range_with_len 0 n) ++ f n ∷ []
map_more f n = map-range_with_len_more f 0 n n (omega arith)

pub sum_more : (f : ℕ → ℕ) (n : ℕ)
    → sum_by (λ c. c) (map f (range_with_len 0 (n + 1))) ≡ sum_by (λ c. c) (map f (range_with_len 0 n)) + f n
sum_more f n = sum_by-map-range_with_len_more (λ c. c) f 0 n n (omega arith)

map-itself : {X : Type 0} (xs : List X) → map (λ x. x) xs ≡ xs
map-itself [] = refl
map-itself (x ∷ xs) = ap (λ l. x ∷ l) (map-itself xs)

range-more : (n : ℕ) → range_with_len 0 (n + 1) ≡ range_with_len 0 n ++ n ∷ []
range-more n = sym (map-itself (range_with_len 0 (n + 1))) ∙ map_more (λ x. x) n ∙ ap (λ l. l ++ n ∷ []) (map-itself (range_with_len 0 n))

pub flat_map_more : {A : Type 0} (f : ℕ → List A) (n : ℕ) → flat_map f (range_with_len 0 (n + 1)) ≡ flat_map f (range_with_len 0 n) ++ f n
flat_map_more f n =
    ap (flat_map f) (range-more n) ∙ flat_map-append f (range_with_len 0 n) (n ∷ [])
    ∙ ap (λ l. flat_map f (range_with_len 0 n) ++ l) (append-nil (f n))
