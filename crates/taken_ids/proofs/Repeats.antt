-- Lists of identifiers without repeats.
use Rattle.std.proofs.Common.{◌≡◌, ◌≢◌, ℕ, ◌+◌, ◌<◌, Bool, true, false, ◌||◌, List, [], ◌∷◌, ◌++◌, length, get_or, take, drop, Option, Some, None, refl, sym, ap, ◌∙◌, arith}
use Rattle.std.specs.Prelude.{AllPairs, Contains, if◌then◌else◌}
use Rattle.std.specs.List.{AllByRecursion, list_any}
use Rattle.std.specs.Str.{bytes_eq}
use Rattle.std.proofs.lemmas.List.Elements.{All-from_recursion}
use Rattle.std.proofs.lemmas.List.Folds.{list_any_at}
use Rattle.std.proofs.lemmas.List.Kept.{AllPairs-cons}
use Rattle.std.proofs.lemmas.Slice.Eq.{bytes_eq-Decides}
use Rattle.gt_model.specs.Linked.{repeated}

pub or-false : (a b : Bool) → (a || b) ≡ false → (a ≡ false) × (b ≡ false)
or-false true b h = absurd (cc)
or-false false b h = (refl, h)

-- of a choice that is nothing
chosen_none : (b : Bool) (x : List ℕ) (o : Option (List ℕ)) → (if b then Some x else o) ≡ None → (b ≡ false) × (o ≡ None)
chosen_none true x o h = absurd (cc)
chosen_none false x o h = (refl, h)

-- one more identifier, which is new
pub repeated-fresh : (earlier xs : List (List ℕ)) (u : List ℕ) → repeated earlier xs ≡ None → list_any (bytes_eq u) earlier ≡ false
    → list_any (bytes_eq u) xs ≡ false → repeated earlier (xs ++ u ∷ []) ≡ None
repeated-fresh earlier [] u h e f = rw e refl
repeated-fresh earlier (x ∷ xs) u h e f =
    let first = chosen_none (list_any (bytes_eq x) earlier) x (repeated (x ∷ earlier) xs) h in
    let apart = or-false (bytes_eq u x) (list_any (bytes_eq u) xs) f in
    rw first.0 (repeated-fresh (x ∷ earlier) xs u first.1 (rw apart.0 e) apart.1)

-- and one that isn't, whatever comes behind it
pub repeated-held : (earlier xs ys : List (List ℕ)) (u : List ℕ) → repeated earlier xs ≡ None → (list_any (bytes_eq u) xs || list_any (bytes_eq u) earlier) ≡ true
    → repeated earlier (xs ++ u ∷ ys) ≡ Some u
repeated-held earlier [] ys u h f = rw f refl
repeated-held earlier (x ∷ xs) ys u h f =
    let first = chosen_none (list_any (bytes_eq x) earlier) x (repeated (x ∷ earlier) xs) h in
    rw first.0 (repeated-held (x ∷ earlier) xs ys u first.1 (or-moved (bytes_eq u x) (list_any (bytes_eq u) xs) (list_any (bytes_eq u) earlier) f))
  where
    or-moved : (a b c : Bool) → ((a || b) || c) ≡ true → (b || (a || c)) ≡ true
    or-moved true true c h = refl
    or-moved true false c h = refl
    or-moved false true c h = refl
    or-moved false false c h = h

-- an identifier in a list is found there
pub held_in : (id : List ℕ) (ids : List (List ℕ)) → Contains ids id → list_any (bytes_eq id) ids ≡ true
held_in id ids held = list_any_at (bytes_eq id) ids held.0 id held.1 ((bytes_eq-Decides id _).1 (sym held.2))

pub all_map : {X : Type 0} (P Q : X → Type 0) (xs : List X) → ((x : X) → P x → Q x) → AllByRecursion P xs → AllByRecursion Q xs
all_map P Q [] f all = tt
all_map P Q (x ∷ xs) f all = (f x all.0, all_map P Q xs f all.1)

-- each differs from all that come later
abbrev pub Apart : List (List ℕ) → Type 0
Apart [] = Unit {0}
Apart (x ∷ xs) = AllByRecursion (λ y. x ≢ y) xs × Apart xs

-- without a repeat they are apart, and none is among the earlier ones
pub none_repeated : (earlier ids : List (List ℕ)) → repeated earlier ids ≡ None → AllByRecursion (λ x. list_any (bytes_eq x) earlier ≡ false) ids × Apart ids
none_repeated earlier [] h = (tt, tt)
none_repeated earlier (x ∷ xs) h =
    let first = chosen_none (list_any (bytes_eq x) earlier) x (repeated (x ∷ earlier) xs) h in
    let rest = none_repeated (x ∷ earlier) xs first.1 in (
      (first.0, all_map (λ y. (bytes_eq y x || list_any (bytes_eq y) earlier) ≡ false) (λ y. list_any (bytes_eq y) earlier ≡ false) xs (λ y k. (or-false (bytes_eq y x) (list_any (bytes_eq y) earlier) k).1) rest.0),
      (all_map (λ y. (bytes_eq y x || list_any (bytes_eq y) earlier) ≡ false) (λ y. x ≢ y) xs (λ y k. differ x y (or-false (bytes_eq y x) (list_any (bytes_eq y) earlier) k).0) rest.0, rest.1),
    )
  where
    differ : (a b : List ℕ) → bytes_eq b a ≡ false → a ≢ b
    differ a b h same = let k = (bytes_eq-Decides b a).1 (sym same) in absurd (cc)

pub pairs_apart : (ids : List (List ℕ)) → Apart ids → AllPairs (λ a b. a ≢ b) ids
pairs_apart [] apart = λ i j d lt within. absurd (omega arith)
pairs_apart (x ∷ xs) apart = AllPairs-cons (λ a b. a ≢ b) x xs (All-from_recursion (λ y. x ≢ y) xs apart.0) (pairs_apart xs apart.1)

-- ---- of lists that are joined

pub all_front : {X : Type 0} (P : X → Type 0) (xs ys : List X) → AllByRecursion P (xs ++ ys) → AllByRecursion P xs
all_front P [] ys all = tt
all_front P (x ∷ xs) ys all = (all.0, all_front P xs ys all.1)

pub all_back : {X : Type 0} (P : X → Type 0) (xs ys : List X) → AllByRecursion P (xs ++ ys) → AllByRecursion P ys
all_back P [] ys all = all
all_back P (x ∷ xs) ys all = all_back P xs ys all.1

pub all_join : {X : Type 0} (P : X → Type 0) (xs ys : List X) → AllByRecursion P xs → AllByRecursion P ys → AllByRecursion P (xs ++ ys)
all_join P [] ys front back = back
all_join P (x ∷ xs) ys front back = (front.0, all_join P xs ys front.1 back)

pub apart_front : (xs ys : List (List ℕ)) → Apart (xs ++ ys) → Apart xs
apart_front [] ys apart = tt
apart_front (x ∷ xs) ys apart = (all_front (λ y. x ≢ y) xs ys apart.0, apart_front xs ys apart.1)

pub apart_back : (xs ys : List (List ℕ)) → Apart (xs ++ ys) → Apart ys
apart_back [] ys apart = apart
apart_back (x ∷ xs) ys apart = apart_back xs ys apart.1

-- each of the first differs from each of the others
pub apart_across : (xs ys : List (List ℕ)) → Apart (xs ++ ys) → AllByRecursion (λ x. AllByRecursion (λ y. x ≢ y) ys) xs
apart_across [] ys apart = tt
apart_across (x ∷ xs) ys apart = (all_back (λ y. x ≢ y) xs ys apart.0, apart_across xs ys apart.1)

pub apart_join : (xs ys : List (List ℕ)) → Apart xs → Apart ys → AllByRecursion (λ x. AllByRecursion (λ y. x ≢ y) ys) xs → Apart (xs ++ ys)
apart_join [] ys front back across = back
apart_join (x ∷ xs) ys front back across = (all_join (λ y. x ≢ y) xs ys front.0 across.0, apart_join xs ys front.1 back across.1)
