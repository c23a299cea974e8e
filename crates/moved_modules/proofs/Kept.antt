-- Lists made of lists, one element further.
use Rattle.std.proofs.Common.{◌≡◌, ℕ, zero, suc, ◌+◌, ◌<◌, Bool, List, [], ◌∷◌, ◌++◌, length, get_or, take, map, Option, refl, sym, ap, subst, ◌∙◌, append-nil, arith}
use Rattle.std.specs.Prelude.{filter}
use Rattle.std.specs.List.{AllByRecursion, filter_map, flat_map}
use Rattle.std.proofs.lemmas.List.{take_more, map-append}
use Rattle.std.proofs.lemmas.List.Concat.{flat_map-append}
use Rattle.std.proofs.lemmas.List.Elements.{filter-append, filter_map-append}

taken : {X : Type 0} (xs : List X) (k : ℕ) (x : X) → k < length xs → x ≡ get_or xs k x → take (k + 1) xs ≡ take k xs ++ x ∷ []
taken xs k x within is = take_more xs k x within ∙ ap (λ y. take k xs ++ y ∷ []) (sym is)

-- what is kept of what is found, and then made into something
abbrev pub made : {X Y A : Type 0} → (Y → A) → (Y → Bool) → (X → Option Y) → List X → List A
made f p h xs = map f (filter p (filter_map h xs))

made_split : {X Y A : Type 0} (f : Y → A) (p : Y → Bool) (h : X → Option Y) (xs ys : List X) → made f p h (xs ++ ys) ≡ made f p h xs ++ made f p h ys
made_split f p h xs ys =
    ap (λ l. map f (filter p l)) (filter_map-append h xs ys)
    ∙ ap (map f) (filter-append p (filter_map h xs) (filter_map h ys))
    ∙ map-append f (filter p (filter_map h xs)) (filter p (filter_map h ys))

pub made_more : {X Y A : Type 0} (f : Y → A) (p : Y → Bool) (h : X → Option Y) (xs : List X) (k : ℕ) (x : X) → k < length xs → x ≡ get_or xs k x
    → made f p h (take (k + 1) xs) ≡ made f p h (take k xs) ++ made f p h (x ∷ [])
made_more f p h xs k x within is = ap (made f p h) (taken xs k x within is) ∙ made_split f p h (take k xs) (x ∷ [])

pub flat_made_more : {X Y Z A : Type 0} (f : Z → A) (p : Z → Bool) (h : Y → Option Z) (g : X → List Y) (xs : List X) (k : ℕ) (x : X) → k < length xs → x ≡ get_or xs k x
    → made f p h (flat_map g (take (k + 1) xs)) ≡ made f p h (flat_map g (take k xs)) ++ made f p h (g x)
flat_made_more f p h g xs k x within is =
    ap (λ ys. made f p h (flat_map g ys)) (taken xs k x within is)
    ∙ ap (made f p h) (flat_map-append g (take k xs) (x ∷ []) ∙ ap (λ l. flat_map g (take k xs) ++ l) (append-nil (g x)))
    ∙ made_split f p h (flat_map g (take k xs)) (g x)

pub filtered_more : {X Y : Type 0} (f : X → Y) (p : X → Bool) (xs : List X) (k : ℕ) (x : X) → k < length xs → x ≡ get_or xs k x
    → map f (filter p (take (k + 1) xs)) ≡ map f (filter p (take k xs)) ++ map f (filter p (x ∷ []))
filtered_more f p xs k x within is =
    ap (λ l. map f (filter p l)) (taken xs k x within is) ∙ ap (map f) (filter-append p (take k xs) (x ∷ [])) ∙ map-append f (filter p (take k xs)) (filter p (x ∷ []))

-- what holds of each holds of the one at a place, as a loop comes to it
holds_at : {X : Type 0} (P : X → Type 0) (xs : List X) (k : ℕ) (d : X) → AllByRecursion P xs → k < length xs → P (get_or xs k d)
holds_at P [] k d all within = absurd (omega arith)
holds_at P (x ∷ xs) zero d all within = all.0
holds_at P (x ∷ xs) (suc k) d all within = holds_at P xs k d all.1 (omega arith)

pub holds_of : {X : Type 0} (P : X → Type 0) (xs : List X) (k : ℕ) (x : X) → AllByRecursion P xs → k < length xs → x ≡ get_or xs k x → P x
holds_of P xs k x all within is = subst P (sym is) (holds_at P xs k x all within)

pub map_same : {X Y : Type 0} (f g : X → Y) (xs : List X) → ((x : X) → f x ≡ g x) → map f xs ≡ map g xs
map_same f g [] same = refl
map_same f g (x ∷ xs) same = ap (λ y. y ∷ map f xs) (same x) ∙ ap (λ l. g x ∷ l) (map_same f g xs same)
