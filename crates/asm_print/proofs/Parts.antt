-- Lists made item by item from another, cut where that one is.
use Rattle.std.proofs.Common.{◌≡◌, ℕ, suc, ◌+◌, ◌<◌, ◌≤◌, ◌^◌, length, map, take, drop, get_or, sum_by, List, [], ◌∷◌, ◌++◌, refl, sym, ap, ◌∙◌, arith}
use Rattle.std.proofs.lemmas.List.{drop_at, drop-map, get_or-map, length-append, length-map, take_at, take-map}
use Rattle.std.proofs.lemmas.List.Sums.{get_or-le-sum_by, sum_by-cons, sum_by-take-drop}

-- the front of what was made from a list
pub front : {A B : Type 0} (f : A → B) (ls bs : List A) (xs : List B) → xs ≡ map f (ls ++ bs) → take (length ls) xs ≡ map f ls
front f ls bs xs e = ap (take (length ls)) e ∙ take-map f (length ls) (ls ++ bs) ∙ ap (map f) (take_at ls bs (length ls) refl)

pub behind : {A B : Type 0} (f : A → B) (ls bs : List A) (xs : List B) → xs ≡ map f (ls ++ bs) → drop (length ls) xs ≡ map f bs
behind f ls bs xs e = ap (drop (length ls)) e ∙ drop-map f (length ls) (ls ++ bs) ∙ ap (map f) (drop_at ls bs (length ls) refl)

pub fits : {A B : Type 0} (f : A → B) (ls bs : List A) (xs : List B) → xs ≡ map f (ls ++ bs) → length ls ≤ length xs
fits f ls bs xs e = let same = ap length e ∙ length-map (ls ++ bs) f ∙ length-append ls bs in omega (arith, same)

-- an item of it
pub at : {A B : Type 0} (f : A → B) (ls : List A) (xs : List B) (i : ℕ) (a : A) (x : B) → xs ≡ map f ls → i < length ls → a ≡ get_or ls i a → x ≡ get_or xs i x → x ≡ f a
at f ls xs i a x e within is there = there ∙ ap (λ ys. get_or ys i x) e ∙ get_or-map f ls i a x within ∙ ap f (sym is)

-- sums of parts and of items are not greater
pub front_sum : {X : Type 0} (f : X → ℕ) (xs : List X) (n m : ℕ) → sum_by f xs < m → sum_by f (take n xs) < m
front_sum f xs n m h = let e = sum_by-take-drop f xs n in omega (arith, e)

pub behind_sum : {X : Type 0} (f : X → ℕ) (xs : List X) (n m : ℕ) → sum_by f xs < m → sum_by f (drop n xs) < m
behind_sum f xs n m h = let e = sum_by-take-drop f xs n in omega (arith, e)

pub item_sum : {X : Type 0} (f : X → ℕ) (xs : List X) (i : ℕ) (x : X) (m : ℕ) → i < length xs → x ≡ get_or xs i x → sum_by f xs < m → f x < m
item_sum f xs i x m within is h = let e = get_or-le-sum_by f xs i x within in let same = ap f is in omega (arith, e, same)

-- the sum over what was made from a list
pub made_sum : {A B : Type 0} (f : A → B) (g : B → ℕ) (ls : List A) → sum_by g (map f ls) ≡ sum_by (λ a. g (f a)) ls
made_sum f g [] = refl
made_sum f g (a ∷ ls) = sum_by-cons g (f a) (map f ls) ∙ ap (λ n. g (f a) + n) (made_sum f g ls) ∙ sym (sum_by-cons (λ x. g (f x)) a ls)
