-- Lists made of lists, one element further, and lists that are alike at each element.
use Rattle.std.proofs.Common.{◌≡◌, ℕ, zero, suc, ◌+◌, ◌<◌, List, [], ◌∷◌, ◌++◌, length, get_or, take, map, Option, refl, sym, ap, subst, ◌∙◌, append-nil, arith}
use Rattle.std.specs.List.{AllByRecursion, filter_map, flat_map}
use Rattle.std.proofs.lemmas.List.{take_more, map-append}
use Rattle.std.proofs.lemmas.List.Concat.{flat_map-append}
use Rattle.std.proofs.lemmas.List.Elements.{filter_map-append}

pub taken : {X : Type 0} (xs : List X) (k : ℕ) (x : X) → k < length xs → x ≡ get_or xs k x → take (k + 1) xs ≡ take k xs ++ x ∷ []
taken xs k x within is = take_more xs k x within ∙ ap (λ y. take k xs ++ y ∷ []) (sym is)

pub kept_more : {X Y A : Type 0} (f : Y → A) (h : X → Option Y) (xs : List X) (k : ℕ) (x : X) → k < length xs → x ≡ get_or xs k x
    → map f (filter_map h (take (k + 1) xs)) ≡ map f (filter_map h (take k xs)) ++ map f (filter_map h (x ∷ []))
kept_more f h xs k x within is =
    ap (λ ys. map f (filter_map h ys)) (taken xs k x within is)
    ∙ ap (map f) (filter_map-append h (take k xs) (x ∷ []))
    ∙ map-append f (filter_map h (take k xs)) (filter_map h (x ∷ []))

pub flat_kept_more : {X Y Z A : Type 0} (f : Z → A) (h : Y → Option Z) (g : X → List Y) (xs : List X) (k : ℕ) (x : X) → k < length xs → x ≡ get_or xs k x
    → map f (filter_map h (flat_map g (take (k + 1) xs))) ≡ map f (filter_map h (flat_map g (take k xs))) ++ map f (filter_map h (g x))
flat_kept_more f h g xs k x within is =
    ap (λ ys. map f (filter_map h (flat_map g ys))) (taken xs k x within is)
    ∙ ap (λ ys. map f (filter_map h ys)) (flat_map-append g (take k xs) (x ∷ []) ∙ ap (λ l. flat_map g (take k xs) ++ l) (append-nil (g x)))
    ∙ ap (map f) (filter_map-append h (flat_map g (take k xs)) (g x))
    ∙ map-append f (filter_map h (flat_map g (take k xs))) (filter_map h (g x))

-- what holds of each holds of the one at a place, as a loop comes to it
holds_at : {X : Type 0} (P : X → Type 0) (xs : List X) (k : ℕ) (d : X) → AllByRecursion P xs → k < length xs → P (get_or xs k d)
holds_at P [] k d all within = absurd (omega arith)
holds_at P (x ∷ xs) zero d all within = all.0
holds_at P (x ∷ xs) (suc k) d all within = holds_at P xs k d all.1 (omega arith)

pub holds_of : {X : Type 0} (P : X → Type 0) (xs : List X) (k : ℕ) (x : X) → AllByRecursion P xs → k < length xs → x ≡ get_or xs k x → P x
holds_of P xs k x all within is = subst P (sym is) (holds_at P xs k x all within)

pub map_same : {X Y : Type 0} (f g : X → Y) (xs : List X) → ((x : X) → f x ≡ g x) → map f xs ≡ map g xs
map_same f g [] same = refl
map_same f g (x ∷ xs) same = ap (λ y. y ∷ map f xs) (same x) ∙ ap (λ l. g x ∷ l) (map_same f g xs same)
