-- Lists made of lists, one element further.
use Rattle.std.proofs.Common.{◌≡◌, ℕ, ◌+◌, ◌<◌, List, [], ◌∷◌, ◌++◌, length, get_or, take, map, Option, sym, ap, ◌∙◌, append-nil}
use Rattle.std.specs.List.{filter_map, flat_map}
use Rattle.std.proofs.lemmas.List.{take_more, map-append}
use Rattle.std.proofs.lemmas.List.Concat.{flat_map-append}
use Rattle.std.proofs.lemmas.List.Elements.{filter_map-append}

taken : {X : Type 0} (xs : List X) (k : ℕ) (x : X) → k < length xs → x ≡ get_or xs k x → take (k + 1) xs ≡ take k xs ++ x ∷ []
taken xs k x within is = take_more xs k x within ∙ ap (λ y. take k xs ++ y ∷ []) (sym is)

pub kept_more : {X Y : Type 0} (h : X → Option Y) (xs : List X) (k : ℕ) (x : X) → k < length xs → x ≡ get_or xs k x
    → filter_map h (take (k + 1) xs) ≡ filter_map h (take k xs) ++ filter_map h (x ∷ [])
kept_more h xs k x within is = ap (filter_map h) (taken xs k x within is) ∙ filter_map-append h (take k xs) (x ∷ [])

pub mapped_kept_more : {X Y A : Type 0} (f : Y → A) (h : X → Option Y) (xs : List X) (k : ℕ) (x : X) → k < length xs → x ≡ get_or xs k x
    → map f (filter_map h (take (k + 1) xs)) ≡ map f (filter_map h (take k xs)) ++ map f (filter_map h (x ∷ []))
mapped_kept_more f h xs k x within is = ap (map f) (kept_more h xs k x within is) ∙ map-append f (filter_map h (take k xs)) (filter_map h (x ∷ []))

pub mapped_flat_more : {X Y Z A : Type 0} (f : Z → A) (h : Y → Option Z) (g : X → List Y) (xs : List X) (k : ℕ) (x : X) → k < length xs → x ≡ get_or xs k x
    → map f (filter_map h (flat_map g (take (k + 1) xs))) ≡ map f (filter_map h (flat_map g (take k xs))) ++ map f (filter_map h (g x))
mapped_flat_more f h g xs k x within is =
    ap (λ ys. map f (filter_map h (flat_map g ys))) (taken xs k x within is)
    ∙ ap (λ ys. map f (filter_map h ys)) (flat_map-append g (take k xs) (x ∷ []) ∙ ap (λ l. flat_map g (take k xs) ++ l) (append-nil (g x)))
    ∙ ap (map f) (filter_map-append h (flat_map g (take k xs)) (g x))
    ∙ map-append f (filter_map h (flat_map g (take k xs))) (filter_map h (g x))
