-- The first answer along a list, as a loop finds it.
use Rattle.std.proofs.Common.{◌≡◌, ℕ, zero, suc, ◌+◌, ◌<◌, Bool, true, false, List, [], ◌∷◌, ◌++◌, length, get_or, take, append_assoc, append-nil, Option, None, Some, refl, sym, ap, ◌∙◌, add-one, arith}
use Rattle.std.specs.List.{flat_map}
use Rattle.std.specs.Option.{option_or}
use Rattle.ir_check.specs.Spans.{first_in, only_if}

or_assoc : {Y : Type 0} (a b c : Option Y) → option_or a (option_or b c) ≡ option_or (option_or a b) c
or_assoc None b c = refl
or_assoc (Some a) b c = refl

pub or_none : {Y : Type 0} (a b : Option Y) → option_or a b ≡ None → (a ≡ None) × (b ≡ None)
or_none None b e = (refl, e)
or_none (Some a) b e = absurd cc

pub first_in-append : {X Y : Type 0} (f : X → Option Y) (xs ys : List X) → first_in f (xs ++ ys) ≡ option_or (first_in f xs) (first_in f ys)
first_in-append f [] ys = refl
first_in-append f (x ∷ xs) ys = ap (option_or (f x)) (first_in-append f xs ys) ∙ or_assoc (f x) (first_in f xs) (first_in f ys)

-- an answer behind elements that have none is the first
pub found_at : {X Y : Type 0} (f : X → Option Y) (xs : List X) (i : ℕ) (d : X) (y : Y) → first_in f (take i xs) ≡ None → i < length xs → f (get_or xs i d) ≡ Some y → Some y ≡ first_in f xs
found_at f [] i d y none within here = absurd (omega arith)
found_at f (z ∷ zs) zero d y none within here = sym (ap (λ o. option_or o (first_in f zs)) here)
found_at f (z ∷ zs) (suc i) d y none within here =
    let p = or_none (f z) (first_in f (take i zs)) none in
    found_at f zs i d y p.1 (omega arith) here ∙ sym (ap (λ o. option_or o (first_in f zs)) p.0)

more : {X Y : Type 0} (f : X → Option Y) (xs : List X) (i : ℕ) (d : X) → first_in f (take i xs) ≡ None → i < length xs → f (get_or xs i d) ≡ None → first_in f (take (suc i) xs) ≡ None
more f [] i d none within here = absurd (omega arith)
more f (z ∷ zs) zero d none within here = ap (λ o. option_or o None) here
more f (z ∷ zs) (suc i) d none within here =
    let p = or_none (f z) (first_in f (take i zs)) none in
    ap (λ o. option_or o (first_in f (take (suc i) zs))) p.0 ∙ more f zs i d p.1 (omega arith) here

-- one element more that has none
pub none_more : {X Y : Type 0} (f : X → Option Y) (xs : List X) (i : ℕ) (d : X) → first_in f (take i xs) ≡ None → i < length xs → f (get_or xs i d) ≡ None → first_in f (take (i + 1) xs) ≡ None
none_more f xs i d none within here = rw add-one (more f xs i d none within here)

pub kept_if : {A : Type 0} (test : Bool) (x : A) → test ≡ true → only_if test x ≡ Some x
kept_if test x holds = rw holds refl

pub dropped_if : {A : Type 0} (test : Bool) (x : A) → test ≡ false → only_if test x ≡ None
dropped_if test x fails = rw fails refl

pieces : {X A : Type 0} (f : X → List A) (xs : List X) (i : ℕ) (d : X) → i < length xs → flat_map f (take (suc i) xs) ≡ flat_map f (take i xs) ++ f (get_or xs i d)
pieces f [] i d within = absurd (omega arith)
pieces f (x ∷ xs) zero d within = append-nil (f x)
pieces f (x ∷ xs) (suc i) d within = ap (λ ys. f x ++ ys) (pieces f xs i d (omega arith)) ∙ sym (append_assoc (f x) (flat_map f (take i xs)) (f (get_or xs i d)))

-- one piece more
pub flat_map_more : {X A : Type 0} (f : X → List A) (xs : List X) (i : ℕ) (d : X) → i < length xs → flat_map f (take (i + 1) xs) ≡ flat_map f (take i xs) ++ f (get_or xs i d)
flat_map_more f xs i d within = rw add-one (pieces f xs i d within)

-- the same of an element that is known as the one at a place
pub found_item : {X Y : Type 0} (f : X → Option Y) (xs : List X) (i : ℕ) (x : X) (y : Y) → first_in f (take i xs) ≡ None → i < length xs → x ≡ get_or xs i x → Some y ≡ f x → Some y ≡ first_in f xs
found_item f xs i x y none within at here = found_at f xs i x y none within (sym (ap f at) ∙ sym here)

pub none_item : {X Y : Type 0} (f : X → Option Y) (xs : List X) (i : ℕ) (x : X) → first_in f (take i xs) ≡ None → i < length xs → x ≡ get_or xs i x → None ≡ f x → first_in f (take (i + 1) xs) ≡ None
none_item f xs i x none within at here = none_more f xs i x none within (sym (ap f at) ∙ sym here)
