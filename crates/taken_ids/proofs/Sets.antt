-- Identifiers that are taken, one further.
use Rattle.std.proofs.Common.{◌≡◌, ℕ, ◌+◌, ◌<◌, Bool, true, false, cond, ◌||◌, List, [], ◌∷◌, ◌++◌, length, get_or, take, drop, Option, Some, None, refl, inl, inr, sym, ap, ◌∙◌, add-one, drop-cons}
use Rattle.std.specs.List.{list_any}
use Rattle.std.specs.Option.{option_map}
use Rattle.std.specs.Str.{bytes_eq}
use Rattle.std.proofs.lemmas.Bool.{cases_Bool}
use Rattle.std.proofs.lemmas.List.{take_more, take-append-drop}
use Rattle.std.proofs.lemmas.List.Folds.{list_any_more}
use Rattle.std.proofs.lemmas.Slice.Eq.{bytes_eq-Decides}
use Rattle.gt_model.specs.Linked.{repeated}
use Rattle.taken_ids.specs.declared.fault.RewriteFault.TheVariants.{IdTaken}
use Rattle.taken_ids.specs.Faults.{first_taken}
use Rattle.taken_ids.proofs.Repeats.{or-false, repeated-fresh, repeated-held}

flipped : (a b : List ℕ) → bytes_eq a b ≡ bytes_eq b a
flipped a b = elim (cases_Bool (bytes_eq a b)) [
  | inl h ↦ h ∙ sym ((bytes_eq-Decides b a).1 (sym ((bytes_eq-Decides a b).0 h)))
  | inr h ↦ elim (cases_Bool (bytes_eq b a)) [
    | inl k ↦ (bytes_eq-Decides a b).1 (sym ((bytes_eq-Decides b a).0 k)) ∙ sym k
    | inr k ↦ h ∙ sym k
  ]
]

one_more : (q : List ℕ) (xs : List (List ℕ)) (i : ℕ) (x : List ℕ) → i < length xs → x ≡ get_or xs i x
    → list_any (bytes_eq q) (take (i + 1) xs) ≡ (list_any (bytes_eq q) (take i xs) || bytes_eq x q)
one_more q xs i x within is =
    list_any_more (bytes_eq q) xs i x within
    ∙ ap (λ (y : List ℕ). list_any (bytes_eq q) (take i xs) || bytes_eq q y) (sym is)
    ∙ ap (λ b. list_any (bytes_eq q) (take i xs) || b) (flipped q x)

or_cond : (a b : Bool) → cond a true b ≡ (b || a)
or_cond true true = refl
or_cond true false = refl
or_cond false true = refl
or_cond false false = refl

-- a set has one more
pub set_more : (q : List ℕ) (xs : List (List ℕ)) (i : ℕ) (x : List ℕ) (b : Bool) → i < length xs → x ≡ get_or xs i x → b ≡ list_any (bytes_eq q) (take i xs)
    → cond (bytes_eq x q) true b ≡ list_any (bytes_eq q) (take (i + 1) xs)
set_more q xs i x b within is so_far = or_cond (bytes_eq x q) b ∙ ap (λ v. v || bytes_eq x q) so_far ∙ sym (one_more q xs i x within is)

or_swap : (a n e : Bool) → ((a || n) || e) ≡ ((a || e) || n)
or_swap true n e = refl
or_swap false true true = refl
or_swap false true false = refl
or_swap false false true = refl
or_swap false false false = refl

-- the same of one that had others before
pub known_more : (q : List ℕ) (xs : List (List ℕ)) (i : ℕ) (x : List ℕ) (b n : Bool) → i < length xs → x ≡ get_or xs i x → b ≡ (list_any (bytes_eq q) (take i xs) || n)
    → cond (bytes_eq x q) true b ≡ (list_any (bytes_eq q) (take (i + 1) xs) || n)
known_more q xs i x b n within is so_far =
    or_cond (bytes_eq x q) b ∙ ap (λ v. v || bytes_eq x q) so_far ∙ or_swap (list_any (bytes_eq q) (take i xs)) n (bytes_eq x q)
    ∙ ap (λ v. v || n) (sym (one_more q xs i x within is))

rest_of : (xs : List (List ℕ)) (i : ℕ) (x : List ℕ) → i < length xs → x ≡ get_or xs i x → drop i xs ≡ x ∷ drop (i + 1) xs
rest_of xs i x within is = rw add-one (drop-cons xs i x within) ∙ ap (λ y. y ∷ drop (i + 1) xs) (sym is)

-- an identifier that is free is passed
pub free_more : (taken xs : List (List ℕ)) (i : ℕ) (x : List ℕ) (c : Bool) → i < length xs → x ≡ get_or xs i x
    → c ≡ (list_any (bytes_eq x) (take i xs) || list_any (bytes_eq x) taken) → c ≡ false
    → repeated taken (take i xs) ≡ None → repeated taken (take (i + 1) xs) ≡ None
free_more taken xs i x c within is known free distinct =
    let none = or-false (list_any (bytes_eq x) (take i xs)) (list_any (bytes_eq x) taken) (sym known ∙ free) in
    ap (repeated taken) (take_more xs i x within ∙ ap (λ y. take i xs ++ y ∷ []) (sym is))
    ∙ repeated-fresh taken (take i xs) x distinct none.1 none.0

-- one that isn't is the fault
pub taken_here : (taken xs : List (List ℕ)) (i : ℕ) (x : List ℕ) (c : Bool) → i < length xs → x ≡ get_or xs i x
    → c ≡ (list_any (bytes_eq x) (take i xs) || list_any (bytes_eq x) taken) → c ≡ true
    → repeated taken (take i xs) ≡ None → first_taken taken xs ≡ Some (IdTaken x)
taken_here taken xs i x c within is known held distinct =
    ap (option_map IdTaken)
    (ap (repeated taken) (sym (take-append-drop i xs) ∙ ap (λ l. take i xs ++ l) (rest_of xs i x within is))
    ∙ repeated-held taken (take i xs) (drop (i + 1) xs) x distinct (sym known ∙ held))
