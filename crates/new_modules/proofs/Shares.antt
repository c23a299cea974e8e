-- The stretches of a program, section by section.
use Rattle.std.proofs.Common.{◌≡◌, ℕ, ◌+◌, ◌-◌, ◌<◌, ◌≤◌, Bool, true, false, List, [], ◌∷◌, ◌++◌, length, get_or, take, drop, map, refl, sym, ap, ◌∙◌, append-nil, arith}
use Rattle.std.specs.Prelude.{filter, if◌then◌else◌}
use Rattle.std.specs.List.{flat_map}
use Rattle.std.proofs.lemmas.List.{drop_at, drop_more, get_or-drop, get_or-map, get_or-take, length-append, length-drop, length-map, length-take, map-append, take-append-drop, take-take, take_at}
use Rattle.std.proofs.lemmas.List.Concat.{flat_map-append}
use Rattle.new_modules.proofs.Lists.{taken}

-- of what is kept the same comes as of all, where nothing comes of the others
pub kept_flat : {X Y : Type 0} (f : X → List Y) (p : X → Bool) (xs : List X) → flat_map f (filter p xs) ≡ flat_map (λ (x : X). if p x then f x else []) xs
kept_flat f p [] = refl
kept_flat {X} {Y} f p (x ∷ xs) = either (p x) ∙ ap (λ (l : List Y). (if p x then f x else []) ++ l) (kept_flat f p xs)
  where
    either : (b : Bool) → flat_map f (if b then x ∷ filter p xs else filter p xs) ≡ (if b then f x else []) ++ flat_map f (filter p xs)
    either true = refl
    either false = refl

around : {X Y : Type 0} (f : X → List Y) (xs : List X) (k : ℕ) (x : X) → k < length xs → x ≡ get_or xs k x
    → flat_map f xs ≡ flat_map f (take k xs) ++ (f x ++ flat_map f (drop (k + 1) xs))
around {X} {Y} f xs k x within is =
    ap (flat_map f) (sym (take-append-drop k xs))
    ∙ flat_map-append f (take k xs) (drop k xs)
    ∙ ap (λ (l : List X). flat_map f (take k xs) ++ flat_map f l) (drop_more xs k x within ∙ ap (λ (y : X). y ∷ drop (k + 1) xs) (sym is))

-- behind what comes of the earlier ones stands what comes of one
pub share_here : {X Y : Type 0} (f : X → List Y) (all : List Y) (xs : List X) (k : ℕ) (x : X) → all ≡ flat_map f xs → k < length xs → x ≡ get_or xs k x
    → take (length (f x)) (drop (length (flat_map f (take k xs))) all) ≡ f x
share_here {X} {Y} f all xs k x whole within is =
    ap (λ (l : List Y). take (length (f x)) (drop (length (flat_map f (take k xs))) l)) (whole ∙ around f xs k x within is)
    ∙ ap (take (length (f x))) (drop_at (flat_map f (take k xs)) (f x ++ flat_map f (drop (k + 1) xs)) (length (flat_map f (take k xs))) refl)
    ∙ take_at (f x) (flat_map f (drop (k + 1) xs)) (length (f x)) refl

pub share_next : {X Y : Type 0} (f : X → List Y) (xs : List X) (k : ℕ) (x : X) → k < length xs → x ≡ get_or xs k x
    → length (flat_map f (take (k + 1) xs)) ≡ length (flat_map f (take k xs)) + length (f x)
share_next {X} {Y} f xs k x within is =
    ap (λ (l : List X). length (flat_map f l)) (taken xs k x within is)
    ∙ ap length (flat_map-append f (take k xs) (x ∷ []) ∙ ap (λ (l : List Y). flat_map f (take k xs) ++ l) (append-nil (f x)))
    ∙ length-append (flat_map f (take k xs)) (f x)

pub share_room : {X Y : Type 0} (f : X → List Y) (all : List Y) (xs : List X) (k : ℕ) (x : X) → all ≡ flat_map f xs → k < length xs → x ≡ get_or xs k x
    → length (flat_map f (take k xs)) + length (f x) ≤ length all
share_room f all xs k x whole within is =
    let sum = ap length (whole ∙ around f xs k x within is) in
    let first = length-append (flat_map f (take k xs)) (f x ++ flat_map f (drop (k + 1) xs)) in
    let second = length-append (f x) (flat_map f (drop (k + 1) xs)) in
    omega (arith, sum, first, second)

-- the first of what stands there
pub front_here : {Y : Type 0} (xs ys all : List Y) (at : ℕ) → take (length (xs ++ ys)) (drop at all) ≡ xs ++ ys → take (length xs) (drop at all) ≡ xs
front_here {Y} xs ys all at here =
    let longer = length-append xs ys in
    sym (take-take (length xs) (length (xs ++ ys)) (drop at all) (omega (arith, longer)))
    ∙ ap (take (length xs)) here
    ∙ take_at xs ys (length xs) refl

-- all of it is there
pub within_here : {X Y : Type 0} (f : X → Y) (xs : List X) (all : List Y) (at k : ℕ) → take (length xs) (drop at all) ≡ map f xs → k < length xs → at + k < length all
within_here f xs all at k here within =
    let same = ap length here in
    let mapped = length-map xs f in
    let most = length-take (length xs) (drop at all) in
    let left = length-drop at all in
    omega (arith, same, mapped, most, left, within)

pub is_there : {X Y : Type 0} (f : X → Y) (xs : List X) (all : List Y) (at k : ℕ) (x : X) (y : Y) → take (length xs) (drop at all) ≡ map f xs → k < length xs → x ≡ get_or xs k x → y ≡ get_or all (at + k) y → y ≡ f x
is_there {X} {Y} f xs all at k x y here within is_x is_y =
    is_y
    ∙ sym (get_or-drop at all k y)
    ∙ sym (get_or-take (length xs) (drop at all) k y within)
    ∙ ap (λ (l : List Y). get_or l k y) here
    ∙ get_or-map f xs k x y within
    ∙ ap f (sym is_x)

pub mapped_more : {X Y : Type 0} (f : X → Y) (xs : List X) (k : ℕ) (x : X) → k < length xs → x ≡ get_or xs k x → map f (take k xs) ++ f x ∷ [] ≡ map f (take (k + 1) xs)
mapped_more f xs k x within is = sym (ap (map f) (taken xs k x within is) ∙ map-append f (take k xs) (x ∷ []))
