-- A stable sort by address gives the segments by address.
use Rattle.std.proofs.Common.{◌≡◌, ℕ, zero, suc, ◌<◌, ◌≤◌, Bool, true, false, cond, List, [], ◌∷◌, length, get_or, filter, nat_cmp, is_lt, refl, sym, ap, subst, ◌∙◌, arith, inl, inr, suc-le-suc, zero-le, nat_lt}
use Rattle.std.proofs.lemmas.Bool.{cond-true, cond-false, cases_Bool}
use Rattle.std.proofs.lemmas.Bool.Decides.{nat_tests}
use Rattle.std.specs.List.Sorted.{ties, IsNonDecreasingBy, IsStableByKey}
use Rattle.bare_image.specs.declared.image.Segment.{Segment}
use Rattle.sym_expr.specs.Images.{put_by_address, by_address}

abbrev address : Segment → ℕ
address x = x.at

-- two segments have one address
abbrev together : Segment → Segment → Bool
together = ties (λ x y. is_lt (nat_cmp (address x) (address y)))

ties_at : (m n : ℕ) → (ties (λ x y. is_lt (nat_cmp x y)) m n ≡ true → m ≡ n) × (m ≡ n → ties (λ x y. is_lt (nat_cmp x y)) m n ≡ true)
ties_at m n = (λ h. grind (arith, nat_tests), λ h. grind (arith, nat_tests))

together-true : (x y : Segment) → together x y ≡ true → x.at ≡ y.at
together-true x y = (ties_at x.at y.at).0

together_from : (x y : Segment) → x.at ≡ y.at → together x y ≡ true
together_from x y = (ties_at x.at y.at).1

le_from : (m n : ℕ) → nat_lt n m ≡ false → m ≤ n
le_from m n h = grind (arith, nat_tests)

lt_from : (m n : ℕ) → nat_lt n m ≡ true → n < m
lt_from m n h = grind (arith, nat_tests)

kept : (p : Segment → Bool) (y : Segment) (ys : List Segment) → p y ≡ true → filter p (y ∷ ys) ≡ y ∷ filter p ys
kept p y ys h = cond-true _ _ _ h

left_out : (p : Segment → Bool) (y : Segment) (ys : List Segment) → p y ≡ false → filter p (y ∷ ys) ≡ filter p ys
left_out p y ys h = cond-false _ _ _ h

-- a segment that is put in stands before those at its address
filter-put : (x c : Segment) (ds : List Segment) → filter (together x) (put_by_address c ds) ≡ filter (together x) (c ∷ ds)
filter-put x c [] = refl
filter-put x c (d ∷ ds) =
    let p = together x in
    elim (cases_Bool (nat_lt d.at c.at)) [
      | inr before ↦ ap (filter p) (cond-false _ _ _ before)
      | inl behind ↦
          let above : d.at < c.at = lt_from c.at d.at behind in
          ap (filter p) (cond-true _ _ _ behind)
          ∙ elim (cases_Bool (p d)) [
            | inr without ↦
                left_out p d (put_by_address c ds) without ∙ filter-put x c ds
                ∙ ap (λ l. cond (p c) (c ∷ l) l) (sym (left_out p d ds without))
            | inl with ↦
                elim (cases_Bool (p c)) [
                  | inl both ↦ absurd (omega (arith, together-true x c both, together-true x d with))
                  | inr only ↦
                      kept p d (put_by_address c ds) with ∙ ap (λ l. d ∷ l) (filter-put x c ds ∙ left_out p c ds only)
                      ∙ sym (left_out p c (d ∷ ds) only ∙ kept p d ds with)
                ]
          ]
    ]

filter-by_address : (x : Segment) (cs : List Segment) → filter (together x) (by_address cs) ≡ filter (together x) cs
filter-by_address x [] = refl
filter-by_address x (c ∷ cs) = filter-put x c (by_address cs) ∙ ap (λ l. cond (together x c) (c ∷ l) l) (filter-by_address x cs)

abbrev pub AreAtLeast : ℕ → List Segment → Type 0
AreAtLeast n [] = Unit {0}
AreAtLeast n (y ∷ ys) = (n ≤ y.at) × AreAtLeast n ys

-- each address is at most the later ones
abbrev pub Rises : List Segment → Type 0
Rises [] = Unit {0}
Rises (y ∷ ys) = AreAtLeast y.at ys × Rises ys

AreAtLeast-le : (n m : ℕ) (ys : List Segment) → n ≤ m → AreAtLeast m ys → AreAtLeast n ys
AreAtLeast-le n m [] le h = tt
AreAtLeast-le n m (y ∷ ys) le h = let first = h.0 in (omega arith, AreAtLeast-le n m ys le h.1)

AreAtLeast-put : (n : ℕ) (c : Segment) (ds : List Segment) → n ≤ c.at → AreAtLeast n ds → AreAtLeast n (put_by_address c ds)
AreAtLeast-put n c [] le h = (le, tt)
AreAtLeast-put n c (d ∷ ds) le h =
    elim (cases_Bool (nat_lt d.at c.at)) [
      | inr before ↦ subst (AreAtLeast n) (sym (cond-false (nat_lt d.at c.at) (d ∷ put_by_address c ds) (c ∷ d ∷ ds) before)) (le, h)
      | inl behind ↦ subst (AreAtLeast n) (sym (cond-true (nat_lt d.at c.at) (d ∷ put_by_address c ds) (c ∷ d ∷ ds) behind)) (h.0, AreAtLeast-put n c ds le h.1)
    ]

Rises-put : (c : Segment) (ds : List Segment) → Rises ds → Rises (put_by_address c ds)
Rises-put c [] h = (tt, tt)
Rises-put c (d ∷ ds) h =
    elim (cases_Bool (nat_lt d.at c.at)) [
      | inr before ↦
          let le : c.at ≤ d.at = le_from c.at d.at before in
          let whole : Rises (c ∷ d ∷ ds) = ((le, AreAtLeast-le c.at d.at ds le h.0), h) in
          subst Rises (sym (cond-false (nat_lt d.at c.at) (d ∷ put_by_address c ds) (c ∷ d ∷ ds) before)) whole
      | inl behind ↦
          let lt : d.at < c.at = lt_from c.at d.at behind in
          let whole : Rises (d ∷ put_by_address c ds) = (AreAtLeast-put d.at c ds (omega arith) h.0, Rises-put c ds h.1) in
          subst Rises (sym (cond-true (nat_lt d.at c.at) (d ∷ put_by_address c ds) (c ∷ d ∷ ds) behind)) whole
    ]

pub Rises-by_address : (cs : List Segment) → Rises (by_address cs)
Rises-by_address [] = tt
Rises-by_address (c ∷ cs) = Rises-put c (by_address cs) (Rises-by_address cs)

AreAtLeast-at : (d : Segment) (n : ℕ) (ys : List Segment) → ((j : ℕ) → j < length ys → n ≤ (get_or ys j d).at) → AreAtLeast n ys
AreAtLeast-at d n [] h = tt
AreAtLeast-at d n (y ∷ ys) h = (h zero (suc-le-suc zero-le), AreAtLeast-at d n ys (λ j lt. h (suc j) (suc-le-suc lt)))

Rises-from_sort : (ys : List Segment) → IsNonDecreasingBy address ys → Rises ys
Rises-from_sort [] h = tt
Rises-from_sort (y ∷ ys) h = (
  AreAtLeast-at y y.at ys (λ j lt. h zero (suc j) y zero-le (suc-le-suc lt)),
  Rises-from_sort ys (λ i j d le lt. h (suc i) (suc j) d (suc-le-suc le) (suc-le-suc lt)),
)

-- an address occurs among them
AreAtLeast-found : (n : ℕ) (x : Segment) (ys : List Segment) (w : Segment) (ws : List Segment) → AreAtLeast n ys → filter (together x) ys ≡ w ∷ ws → n ≤ x.at
AreAtLeast-found n x [] w ws h e = cc
AreAtLeast-found n x (y ∷ ys) w ws h e =
    elim (cases_Bool (together x y)) [
      | inl with ↦ omega (arith, h.0, together-true x y with)
      | inr without ↦ AreAtLeast-found n x ys w ws h.1 (sym (left_out (together x) y ys without) ∙ e)
    ]

-- lists that rise are one where they have the same segments in the same order at each address
same_from_addresses : (ys zs : List Segment) → Rises ys → Rises zs → ((x : Segment) → filter (together x) ys ≡ filter (together x) zs) → ys ≡ zs
same_from_addresses [] [] left right same = refl
same_from_addresses [] (z ∷ zs) left right same =
    let clash = same z ∙ kept (together z) z zs (together_from z z refl) in cc
same_from_addresses (y ∷ ys) [] left right same =
    let clash = sym (same y) ∙ kept (together y) y ys (together_from y y refl) in cc
same_from_addresses (y ∷ ys) (z ∷ zs) left right same =
    let at_y = kept (together y) y ys (together_from y y refl) in
    let at_z = kept (together z) z zs (together_from z z refl) in
    let up = AreAtLeast-found z.at y (z ∷ zs) y _ (omega arith, right.0) (sym (same y) ∙ at_y) in
    let down = AreAtLeast-found y.at z (y ∷ ys) z _ (omega arith, left.0) (same z ∙ at_z) in
    let heads = sym at_y ∙ same y ∙ kept (together y) z zs (together_from y z (omega arith)) in
    let head : y ≡ z = cc in
    let tails : (x : Segment) → filter (together x) ys ≡ filter (together x) zs =
    λ x. elim (cases_Bool (together x y)) [
      | inl with ↦
          let both = sym (kept (together x) y ys with) ∙ same x ∙ kept (together x) z zs (ap (together x) (sym head) ∙ with) in cc
      | inr without ↦
          sym (left_out (together x) y ys without) ∙ same x ∙ left_out (together x) z zs (ap (together x) (sym head) ∙ without)
    ] in
    ap (λ w. w ∷ ys) head ∙ ap (λ l. z ∷ l) (same_from_addresses ys zs left.1 right.1 tails)

pub by_address-from_sort : (xs ys : List Segment) → IsNonDecreasingBy address ys → IsStableByKey address nat_cmp xs ys → ys ≡ by_address xs
by_address-from_sort xs ys sorted stable =
    same_from_addresses ys (by_address xs) (Rises-from_sort ys sorted) (Rises-by_address xs) (λ x. stable x ∙ sym (filter-by_address x xs))
