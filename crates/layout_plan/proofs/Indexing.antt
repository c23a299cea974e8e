-- Steps of the loops that index intervals.
use Rattle.std.proofs.Common.{◌≡◌, ◌||◌, ℕ, suc, ◌+◌, ◌<◌, Bool, true, false, cond, Option, Some, None, List, [], ◌∷◌, ◌++◌, length, take, drop, get_or, map, find, refl, inl, inr, sym, ap, ◌∙◌, subst, add-one}
use Rattle.std.specs.Option.{is_some, option_or, unwrap_or}
use Rattle.std.specs.Str.{bytes_eq}
use Rattle.std.proofs.lemmas.Bool.{cond-true, cond-false, cases_Bool}
use Rattle.std.proofs.lemmas.List.{take_more, map_more}
use Rattle.std.proofs.lemmas.List.Folds.{list_any_more}
use Rattle.std.proofs.lemmas.Slice.Eq.{bytes_eq-Decides}
use Rattle.std.proofs.Math.Seq.{drop-cons}
use Rattle.sym_expr.specs.declared.layout.Layout.{Layout}
use Rattle.sym_expr.specs.declared.layout.PlaceAt.{PlaceAt}
use Rattle.sym_expr.specs.declared.layout.PlacedSpot.{PlacedSpot}
use Rattle.sym_expr.specs.declared.layout.Spot.TheVariants.{Interval}
use Rattle.sym_expr.specs.declared.shape.ShapeSpot.{ShapeSpot}
use Rattle.sym_expr.specs.Layouts.{place_in, placed}
use Rattle.layout_plan.specs.Faults.{is_known, repeated}

or_cond : (a b : Bool) → cond a true b ≡ (b || a)
or_cond true true = refl
or_cond true false = refl
or_cond false true = refl
or_cond false false = refl

-- the items up to the one at i, and those from it on
taken : {X : Type 0} (xs : List X) (i : ℕ) (x : X) → i < length xs → x ≡ get_or xs i x → take (i + 1) xs ≡ take i xs ++ x ∷ []
taken xs i x lt is = take_more xs i x lt ∙ ap (λ y. take i xs ++ y ∷ []) (sym is)

pub dropped : {X : Type 0} (xs : List X) (i : ℕ) (x : X) → i < length xs → x ≡ get_or xs i x → drop i xs ≡ x ∷ drop (i + 1) xs
dropped xs i x lt is = drop-cons xs i x lt ∙ ap (λ y. y ∷ drop (suc i) xs) (sym is) ∙ ap (λ n. x ∷ drop n xs) (sym (add-one i))

-- one more interval is known
pub known_more : (spots : List ShapeSpot) (i : ℕ) (s : ShapeSpot) (id : List ℕ) (b : Bool) → i < length spots → s ≡ get_or spots i s → b ≡ is_known (take i spots) id
    → cond (bytes_eq s.interval id) true b ≡ is_known (take (i + 1) spots) id
known_more spots i s id b lt is so_far =
    or_cond (bytes_eq s.interval id) b ∙ ap (λ v. v || bytes_eq s.interval id) so_far
    ∙ ap (λ (t : ShapeSpot). is_known (take i spots) id || bytes_eq t.interval id) is
    ∙ sym (list_any_more (λ (s : ShapeSpot). bytes_eq s.interval id) spots i s lt)

-- the address that places and one more give
pub place_in-push : (ps : List PlaceAt) (p : PlaceAt) (id : List ℕ) → place_in (ps ++ p ∷ []) id ≡ option_or (place_in ps id) (cond (bytes_eq p.interval id) (Some p.at) None)
place_in-push [] p id = refl
place_in-push (q ∷ qs) p id =
    elim (cases_Bool (bytes_eq q.interval id)) [
      | inl same ↦ cond-true _ _ _ same ∙ ap (λ o. option_or o (cond (bytes_eq p.interval id) (Some p.at) None)) (sym (cond-true _ _ _ same))
      | inr other ↦ cond-false _ _ _ other ∙ place_in-push qs p id ∙ ap (λ o. option_or o (cond (bytes_eq p.interval id) (Some p.at) None)) (sym (cond-false _ _ _ other))
    ]

or_none : (o : Option ℕ) → option_or o None ≡ o
or_none None = refl
or_none (Some n) = refl

none_from : {X : Type 0} (o : Option X) → is_some o ≡ false → o ≡ None
none_from None h = refl
none_from (Some x) h = cc

-- one more place, of an interval that had none
pub place_more : (places : List PlaceAt) (i : ℕ) (p : PlaceAt) (id : List ℕ) (o : Option ℕ) → i < length places → p ≡ get_or places i p
    → is_some (place_in (take i places) p.interval) ≡ false → o ≡ place_in (take i places) id
    → cond (bytes_eq p.interval id) (Some p.at) o ≡ place_in (take (i + 1) places) id
place_more places i p id o lt is new so_far =
    let before = take i places in
    let whole : place_in (take (i + 1) places) id ≡ option_or (place_in before id) (cond (bytes_eq p.interval id) (Some p.at) None) =
    ap (λ ps. place_in ps id) (taken places i p lt is) ∙ place_in-push before p id in
    elim (cases_Bool (bytes_eq p.interval id)) [
      | inl same ↦
          let at : p.interval ≡ id = (bytes_eq-Decides p.interval id).0 same in
          let none : place_in before id ≡ None = none_from _ (subst (λ k. is_some (place_in before k) ≡ false) at new) in
          cond-true _ _ _ same
          ∙ sym (whole ∙ ap (λ o. option_or o (cond (bytes_eq p.interval id) (Some p.at) None)) none ∙ cond-true _ _ _ same)
      | inr other ↦
          cond-false _ _ _ other ∙ so_far
          ∙ sym (whole ∙ ap (option_or (place_in before id)) (cond-false _ _ _ other) ∙ or_none (place_in before id))
    ]

-- a place of an interval that had none is passed
pub repeated_more : (places : List PlaceAt) (i : ℕ) (p : PlaceAt) → i < length places → p ≡ get_or places i p
    → is_some (place_in (take i places) p.interval) ≡ false
    → repeated (take (i + 1) places) (drop (i + 1) places) ≡ repeated (take i places) (drop i places)
repeated_more places i p lt is new =
    ap (λ ps. repeated ps (drop (i + 1) places)) (taken places i p lt is)
    ∙ sym (ap (repeated (take i places)) (dropped places i p lt is) ∙ cond-false _ _ _ new)

-- a place of an interval that had one is the one that is found
pub repeated_here : (places : List PlaceAt) (i : ℕ) (p : PlaceAt) → i < length places → p ≡ get_or places i p
    → is_some (place_in (take i places) p.interval) ≡ true
    → repeated (take i places) (drop i places) ≡ Some p
repeated_here places i p lt is old = ap (repeated (take i places)) (dropped places i p lt is) ∙ cond-true _ _ _ old

-- a search goes on behind what doesn't pass, and ends at what does
pub find_more : {X : Type 0} (test : X → Bool) (xs : List X) (i : ℕ) (x : X) → i < length xs → x ≡ get_or xs i x → test x ≡ false
    → find test (drop (i + 1) xs) ≡ find test (drop i xs)
find_more test xs i x lt is fails = sym (ap (find test) (dropped xs i x lt is) ∙ cond-false _ _ _ fails)

pub find_here : {X : Type 0} (test : X → Bool) (xs : List X) (i : ℕ) (x : X) → i < length xs → x ≡ get_or xs i x → test x ≡ true
    → find test (drop i xs) ≡ Some x
find_here test xs i x lt is passes = ap (find test) (dropped xs i x lt is) ∙ cond-true _ _ _ passes

-- one more spot is placed
pub placed_more : (layout : Layout) (spots : List ShapeSpot) (i : ℕ) (s : ShapeSpot) (at : ℕ) (xs : List PlacedSpot) → i < length spots → s ≡ get_or spots i s
    → place_in layout.places s.interval ≡ Some at → xs ≡ map (placed layout) (take i spots)
    → xs ++ record { spot = Interval s.interval; at = at; size = s.size; align = s.align } ∷ [] ≡ map (placed layout) (take (i + 1) spots)
placed_more layout spots i s at xs lt is found so_far =
    let one : record { spot = Interval s.interval; at = at; size = s.size; align = s.align } ≡ placed layout s =
    ap (λ (o : Option ℕ). record { spot = Interval s.interval; at = unwrap_or o 0; size = s.size; align = s.align }) (sym found) in
    ap (λ ys. ys ++ record { spot = Interval s.interval; at = at; size = s.size; align = s.align } ∷ []) so_far
    ∙ ap (λ (x : PlacedSpot). map (placed layout) (take i spots) ++ x ∷ []) one
    ∙ ap (λ t. map (placed layout) (take i spots) ++ placed layout t ∷ []) is
    ∙ sym (map_more (placed layout) spots i s lt)
