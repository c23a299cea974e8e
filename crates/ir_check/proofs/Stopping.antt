-- A loop that stops at a fault has found the first; one that goes on has mapped one element more.
use Rattle.std.proofs.Common.{◌≡◌, ℕ, ◌+◌, ◌<◌, List, [], ◌∷◌, ◌++◌, map, length, get_or, take, Option, None, sym, ap, ◌∙◌}
use Rattle.std.proofs.lemmas.List.{get_or-map, map_more, take_more}
use Rattle.gr_base.specs.declared.end.End.{End}
use Rattle.gr_base.specs.declared.end.End.TheVariants as ends
use Rattle.ir_check.specs.Outcomes.{Stops}
use Rattle.ir_check.specs.Spans.{first_in}
use Rattle.ir_check.proofs.First.{found_item}

pub stops_at : {X F : Type 0} (f : X → Option F) (xs : List X) (i : ℕ) (x : X) (end : End F) → first_in f (take i xs) ≡ None → i < length xs → x ≡ get_or xs i x → Stops end (f x) → Stops end (first_in f xs)
stops_at f xs i x ends.Memory none within at stops = tt
stops_at f xs i x (ends.Fault y) none within at stops = sym (found_item f xs i x y none within at (sym stops))

-- a loop that maps a list has mapped one element more
pub map_item : {X Y : Type 0} (f : X → Y) (xs : List X) (i : ℕ) (x : X) → i < length xs → x ≡ get_or xs i x → map f (take i xs) ++ f x ∷ [] ≡ map f (take (i + 1) xs)
map_item {X} f xs i x within at = ap (λ (y : X). map f (take i xs) ++ f y ∷ []) at ∙ sym (map_more f xs i x within)

-- an element of a list that is another mapped
pub mapped_item : {X Y : Type 0} (f : X → Y) (xs : List X) (ys : List Y) (i : ℕ) (x : X) (y : Y) → ys ≡ map f xs → i < length xs → x ≡ get_or xs i x → y ≡ get_or ys i y → y ≡ f x
mapped_item {X} {Y} f xs ys i x y same within at is = is ∙ ap (λ (zs : List Y). get_or zs i y) same ∙ get_or-map f xs i x y within ∙ sym (ap f at)

-- a loop has taken one element more
pub taken_item : {X : Type 0} (xs : List X) (i : ℕ) (x : X) → i < length xs → x ≡ get_or xs i x → take i xs ++ x ∷ [] ≡ take (i + 1) xs
taken_item {X} xs i x within at = ap (λ (y : X). take i xs ++ y ∷ []) at ∙ sym (take_more xs i x within)
