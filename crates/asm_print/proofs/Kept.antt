-- Lists that are gone through while some items are left out, one item further.
use Rattle.std.proofs.Common.{◌≡◌, ℕ, suc, ◌+◌, ◌<◌, Bool, true, false, cond, length, take, drop, get_or, List, [], ◌∷◌, ◌++◌, refl, sym, ap, ◌∙◌, append-nil, arith}
use Rattle.std.specs.Prelude.{filter}
use Rattle.std.specs.List.{flat_map}
use Rattle.std.proofs.lemmas.Bool.{cond-true, cond-false}
use Rattle.std.proofs.lemmas.List.{drop_more, take_more}
use Rattle.std.proofs.lemmas.List.Concat.{flat_map-append}
use Rattle.std.proofs.lemmas.List.Elements.{filter-append}

-- what the items so far give, with one more
pub kept_more : {X A : Type 0} (f : X → List A) (p : X → Bool) (xs : List X) (k : ℕ) (x : X) → k < length xs → x ≡ get_or xs k x
    → flat_map f (filter p (take (k + 1) xs)) ≡ flat_map f (filter p (take k xs)) ++ cond (p x) (f x) []
kept_more f p xs k x within is =
    ap (λ ys. flat_map f (filter p ys)) (take_more xs k x within ∙ ap (λ y. take k xs ++ y ∷ []) (sym is))
    ∙ ap (flat_map f) (filter-append p (take k xs) (x ∷ []))
    ∙ flat_map-append f (filter p (take k xs)) (filter p (x ∷ []))
    ∙ ap (λ r. flat_map f (filter p (take k xs)) ++ r) (one (p x))
  where
    one : (b : Bool) → flat_map f (cond b (x ∷ []) []) ≡ cond b (f x) []
    one true = append-nil (f x)
    one false = refl

-- what is left from an item on: the item, if it is kept, and what is left behind it
pub left_kept : {X : Type 0} (p : X → Bool) (xs : List X) (k : ℕ) (x : X) → k < length xs → x ≡ get_or xs k x → p x ≡ true → filter p (drop k xs) ≡ x ∷ filter p (drop (k + 1) xs)
left_kept p xs k x within is true_here =
    ap (filter p) (drop_more xs k x within ∙ ap (λ y. y ∷ drop (k + 1) xs) (sym is))
    ∙ cond-true (p x) (x ∷ filter p (drop (k + 1) xs)) (filter p (drop (k + 1) xs)) true_here

pub left_skipped : {X : Type 0} (p : X → Bool) (xs : List X) (k : ℕ) (x : X) → k < length xs → x ≡ get_or xs k x → p x ≡ false → filter p (drop k xs) ≡ filter p (drop (k + 1) xs)
left_skipped p xs k x within is false_here =
    ap (filter p) (drop_more xs k x within ∙ ap (λ y. y ∷ drop (k + 1) xs) (sym is))
    ∙ cond-false (p x) (x ∷ filter p (drop (k + 1) xs)) (filter p (drop (k + 1) xs)) false_here
