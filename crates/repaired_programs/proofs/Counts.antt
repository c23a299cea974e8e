-- How often an identifier stands in a list: lists are distinct where each stands there once at most.
use Rattle.std.proofs.Common.{◌≡◌, ◌≢◌, ℕ, ◌+◌, ◌≤◌, Bool, true, false, List, [], ◌∷◌, ◌++◌, map, refl, sym, ap, subst, arith}
use Rattle.std.specs.Prelude.{AllPairs, if◌then◌else◌}
use Rattle.std.specs.List.{AllByRecursion as Every, IsDistinct}
use Rattle.std.specs.Str.{bytes_eq}
use Rattle.std.proofs.lemmas.Slice.Eq.{bytes_eq-Decides}
use Rattle.std.proofs.lemmas.Map.Made.{IsDistinct-from_AllPairs}
use Rattle.gt_model.specs.declared.intervals.Block.{Block}
use Rattle.sym_expr.specs.Modules.{goes_before, id_of, in_order, put_in_order}

abbrev one : Bool → ℕ
one true = 1
one false = 0

abbrev pub times : List ℕ → List (List ℕ) → ℕ
times id [] = 0
times id (x ∷ xs) = one (bytes_eq id x) + times id xs

pub times_append : (id : List ℕ) (xs ys : List (List ℕ)) → times id (xs ++ ys) ≡ times id xs + times id ys
times_append id [] ys = omega arith
times_append id (x ∷ xs) ys = let rest = times_append id xs ys in omega (arith, rest)

others_none : (x : List ℕ) (ys : List (List ℕ)) → Every (λ y. bytes_eq x y ≡ false) ys → times x ys ≡ 0
others_none x [] h = refl
others_none x (y ∷ ys) h =
    let rest = others_none x ys h.1 in
    let here : one (bytes_eq x y) ≡ 0 = ap one h.0 in
    omega (arith, rest, here)

none_others : (x : List ℕ) (ys : List (List ℕ)) → times x ys ≤ 0 → Every (λ y. bytes_eq x y ≡ false) ys
none_others x [] h = tt
none_others x (y ∷ ys) h = (none_here (bytes_eq x y) (times x ys) h, none_others x ys (omega arith))
  where
    none_here : (b : Bool) (n : ℕ) → one b + n ≤ 0 → b ≡ false
    none_here true n k = absurd (omega arith)
    none_here false n k = refl

once_more : (id x : List ℕ) (xs : List (List ℕ)) (b : Bool) → bytes_eq id x ≡ b → Every (λ y. bytes_eq x y ≡ false) xs → times id xs ≤ 1 → one b + times id xs ≤ 1
once_more id x xs true is h k =
    let none : times id xs ≡ 0 = let P : List ℕ → Type 0 = λ z. times z xs ≡ 0 in subst P (sym ((bytes_eq-Decides id x).0 is)) (others_none x xs h) in
    omega (arith, none)
once_more id x xs false is h k = omega arith

once_of_distinct : (xs : List (List ℕ)) → IsDistinct bytes_eq xs → (id : List ℕ) → times id xs ≤ 1
unfolding IsDistinct
once_of_distinct [] d id = omega arith
once_of_distinct (x ∷ xs) d id = once_more id x xs (bytes_eq id x) refl d.0 (once_of_distinct xs d.1 id)

pub once : (xs : List (List ℕ)) → AllPairs (λ a b. a ≢ b) xs → (id : List ℕ) → times id xs ≤ 1
once xs d id = once_of_distinct xs (IsDistinct-from_AllPairs bytes_eq-Decides xs d) id

pub distinct_of_once : (xs : List (List ℕ)) → ((id : List ℕ) → times id xs ≤ 1) → IsDistinct bytes_eq xs
unfolding IsDistinct
distinct_of_once [] h = tt
distinct_of_once (x ∷ xs) h =
    let here : one (bytes_eq x x) ≡ 1 = ap one ((bytes_eq-Decides x x).1 refl) in
    let most = h x in
    (none_others x xs (omega (arith, here, most)), distinct_of_once xs (λ id. let all = h id in omega (arith, all)))

-- ---- blocks in order

either_times : (id : List ℕ) (b c : Block) (x : Bool) (bs cs : List Block) → times id (map id_of bs) ≡ one (bytes_eq id (id_of b)) + times id (map id_of cs)
    → times id (map id_of (if x then c ∷ bs else b ∷ c ∷ cs)) ≡ one (bytes_eq id (id_of b)) + times id (map id_of (c ∷ cs))
either_times id b c true bs cs h = omega (arith, h)
either_times id b c false bs cs h = refl

put_times : (id : List ℕ) (b : Block) (cs : List Block) → times id (map id_of (put_in_order b cs)) ≡ one (bytes_eq id (id_of b)) + times id (map id_of cs)
put_times id b [] = refl
put_times id b (c ∷ cs) = either_times id b c (goes_before c b) (put_in_order b cs) cs (put_times id b cs)

pub times_in_order : (id : List ℕ) (bs : List Block) → times id (map id_of (in_order bs)) ≡ times id (map id_of bs)
times_in_order id [] = refl
times_in_order id (b ∷ bs) =
    let rest = times_in_order id bs in
    let here = put_times id b (in_order bs) in
    omega (arith, rest, here)
