-- A layout has no fault exactly where it is accepted.
use Rattle.std.proofs.Common.{◌≡◌, ◌≢◌, ℕ, ◌^◌, ◌<◌, Bool, true, false, not, cond, Option, Some, None, IsSome, List, [], ◌∷◌, ◌++◌, map, find, filter, refl, sym, ap, subst, ◌∙◌, arith, inl, inr, zero, suc, lit<, pow-suc}
use Rattle.std.specs.Option.{is_some, is_none, option_map, option_or, unwrap_or}
use Rattle.std.specs.List.{AllByRecursion, Any}
use Rattle.std.specs.Str.{bytes_eq}
use Rattle.std.proofs.lemmas.Bool.{cond-true, cond-false, cases_Bool}
use Rattle.std.proofs.lemmas.Bool.Decides.{nat_tests}
use Rattle.std.proofs.lemmas.List.Elements.{All-from_recursion}
use Rattle.std.proofs.lemmas.List.Folds.{Any-from_list_any, list_any-from_Any}
use Rattle.std.proofs.lemmas.Slice.Eq.{bytes_eq-Decides}
use Rattle.gt_model.specs.Typed.{IsId}
use Rattle.sym_expr.specs.declared.layout.Layout.{Layout}
use Rattle.sym_expr.specs.declared.layout.PlaceAt.{PlaceAt}
use Rattle.sym_expr.specs.declared.layout.PlacedSpot.{PlacedSpot}
use Rattle.sym_expr.specs.declared.shape.Shape.{Shape}
use Rattle.sym_expr.specs.declared.shape.ShapeSpot.{ShapeSpot}
use Rattle.sym_expr.specs.Shapes.{IsShape, IsShapeSpot}
use Rattle.sym_expr.specs.Layouts.{IsStackSize, typed_place, place_in, placed, placed_stack, placed_spots, IsInside, IsAligned, AreApart, accepted}
use Rattle.layout_plan.specs.Faults.{is_known, unknown_fault, repeated, twice_fault, missing_fault, is_inside, outside_fault, is_aligned, unaligned_fault, overlap_fault, by_address, has_bytes, layout_fault}
use Rattle.layout_plan.proofs.Indexing.{place_in-push}
use Rattle.layout_plan.proofs.Pairs.{Pairs, all_pairs, pairs_from, all_through, all_append, none_passes, finds_none}
use Rattle.layout_plan.proofs.Apart.{apart_without_fault, no_fault_apart}

pub none_or : {X : Type 0} (a b : Option X) → option_or a b ≡ None → (a ≡ None) × (b ≡ None)
none_or None b h = (refl, h)
none_or (Some x) b h = cc

map_none : {X Y : Type 0} (f : X → Y) (o : Option X) → option_map f o ≡ None → o ≡ None
map_none f None h = refl
map_none f (Some x) h = cc

true_from : (b : Bool) → not b ≡ false → b ≡ true
true_from true h = refl
true_from false h = cc

-- each place is of an interval of the shape
abbrev IsOf : List ShapeSpot → PlaceAt → Type 0
IsOf spots p = Any (λ (s : ShapeSpot). s.interval ≡ p.interval) spots

known_at : (spots : List ShapeSpot) (p : PlaceAt) → not (is_known spots p.interval) ≡ false → IsOf spots p
known_at spots p h =
    let found = Any-from_list_any (λ (s : ShapeSpot). bytes_eq s.interval p.interval) spots (true_from _ h) in
    (found.0, found.1, found.2, found.3, (bytes_eq-Decides found.1.interval p.interval).0 found.4)

not_unknown : (spots : List ShapeSpot) (p : PlaceAt) → IsOf spots p → not (is_known spots p.interval) ≡ false
not_unknown spots p is =
    ap not (list_any-from_Any (λ (s : ShapeSpot). bytes_eq s.interval p.interval) spots (is.0, is.1, is.2, is.3, (bytes_eq-Decides is.1.interval p.interval).1 is.4))

-- no place is of an interval that has one already
abbrev pub Differ : PlaceAt → PlaceAt → Type 0
Differ p q = p.interval ≢ q.interval

abbrev Fresh : List PlaceAt → List PlaceAt → Type 0
Fresh before ps = AllByRecursion (λ (q : PlaceAt). place_in before q.interval ≡ None) ps

some_not_none : {X : Type 0} (o : Option X) → is_some o ≡ false → o ≡ None
some_not_none None h = refl
some_not_none (Some x) h = cc

fresh_parts : (before : List PlaceAt) (p q : PlaceAt) → place_in (before ++ p ∷ []) q.interval ≡ None → (place_in before q.interval ≡ None) × Differ p q
fresh_parts before p q none =
    let parts = none_or (place_in before q.interval) _ (sym (place_in-push before p q.interval) ∙ none) in
    (parts.0, λ same. let clash = sym (cond-true (bytes_eq p.interval q.interval) (Some p.at) None ((bytes_eq-Decides p.interval q.interval).1 same)) ∙ parts.1 in cc)

fresh_both : (before : List PlaceAt) (p q : PlaceAt) → place_in before q.interval ≡ None → Differ p q → place_in (before ++ p ∷ []) q.interval ≡ None
fresh_both before p q none differ =
    elim (cases_Bool (bytes_eq p.interval q.interval)) [
      | inl same ↦ absurd (differ ((bytes_eq-Decides p.interval q.interval).0 same))
      | inr other ↦ place_in-push before p q.interval ∙ ap (λ o. option_or o (cond (bytes_eq p.interval q.interval) (Some p.at) None)) none ∙ cond-false (bytes_eq p.interval q.interval) (Some p.at) None other
    ]

fresh_from : (before ps : List PlaceAt) → repeated before ps ≡ None → Fresh before ps × Pairs Differ ps
fresh_from before [] h = (tt, tt)
fresh_from before (p ∷ ps) h =
    elim (cases_Bool (is_some (place_in before p.interval))) [
      | inl old ↦ let clash = sym (cond-true _ (Some p) (repeated (before ++ p ∷ []) ps) old) ∙ h in cc
      | inr new ↦
          let rest = fresh_from (before ++ p ∷ []) ps (sym (cond-false _ (Some p) (repeated (before ++ p ∷ []) ps) new) ∙ h) in (
            (some_not_none _ new, all_through (λ (q : PlaceAt). place_in (before ++ p ∷ []) q.interval ≡ None) (λ (q : PlaceAt). place_in before q.interval ≡ None) (λ q none. (fresh_parts before p q none).0) ps rest.0),
            (all_through (λ (q : PlaceAt). place_in (before ++ p ∷ []) q.interval ≡ None) (Differ p) (λ q none. (fresh_parts before p q none).1) ps rest.0, rest.1),
          )
    ]

fresh_more : (before : List PlaceAt) (p : PlaceAt) (ps : List PlaceAt) → Fresh before ps → AllByRecursion (Differ p) ps → Fresh (before ++ p ∷ []) ps
fresh_more before p [] fresh differ = tt
fresh_more before p (q ∷ qs) fresh differ = (fresh_both before p q fresh.0 differ.0, fresh_more before p qs fresh.1 differ.1)

none_repeated : (before ps : List PlaceAt) → Fresh before ps → Pairs Differ ps → repeated before ps ≡ None
none_repeated before [] fresh pairs = refl
none_repeated before (p ∷ ps) fresh pairs =
    cond-false _ (Some p) (repeated (before ++ p ∷ []) ps) (ap is_some fresh.0) ∙ none_repeated (before ++ p ∷ []) ps (fresh_more before p ps fresh.1 pairs.0) pairs.1

fresh_at_first : (ps : List PlaceAt) → Fresh [] ps
fresh_at_first [] = tt
fresh_at_first (p ∷ ps) = (refl, fresh_at_first ps)

-- each interval has a place
some_from : (o : Option ℕ) → is_none o ≡ false → IsSome o
some_from None h = cc
some_from (Some n) h = refl

none_not : (o : Option ℕ) → IsSome o → is_none o ≡ false
none_not None h = cc
none_not (Some n) h = refl

-- a spot is inside, and aligned
inside_from : (x : PlacedSpot) → not (is_inside x) ≡ false → IsInside x
inside_from x h = record { low = grind (arith, nat_tests); high = grind (arith, nat_tests) }

not_outside : (x : PlacedSpot) → IsInside x → not (is_inside x) ≡ false
not_outside x h = let low = h.low in let high = h.high in grind (arith, nat_tests)

aligned_from : (x : PlacedSpot) → not (is_aligned x) ≡ false → IsAligned x
aligned_from x h = grind (arith, nat_tests)

not_unaligned : (x : PlacedSpot) → IsAligned x → not (is_aligned x) ≡ false
not_unaligned x h = grind (arith, nat_tests)

pub inside_unless_found : (xs : List PlacedSpot) → find (λ x. not (is_inside x)) xs ≡ None → AllByRecursion IsInside xs
inside_unless_found xs none = all_through (λ x. not (is_inside x) ≡ false) IsInside inside_from xs (none_passes (λ x. not (is_inside x)) xs none)

-- among places of distinct intervals each gives its interval's address
pub gives_it : (ps : List PlaceAt) → Pairs Differ ps → AllByRecursion (λ (p : PlaceAt). place_in ps p.interval ≡ Some p.at) ps
gives_it [] pairs = tt
gives_it (p ∷ ps) pairs = (
  cond-true (bytes_eq p.interval p.interval) (Some p.at) (place_in ps p.interval) ((bytes_eq-Decides p.interval p.interval).1 refl),
  behind p ps ps pairs.0 (gives_it ps pairs.1),
)
  where
    behind : (p : PlaceAt) (ps qs : List PlaceAt) → AllByRecursion (Differ p) qs → AllByRecursion (λ (q : PlaceAt). place_in ps q.interval ≡ Some q.at) qs
        → AllByRecursion (λ (q : PlaceAt). place_in (p ∷ ps) q.interval ≡ Some q.at) qs
    behind p ps [] differ all = tt
    behind p ps (q ∷ qs) differ all =
        elim (cases_Bool (bytes_eq p.interval q.interval)) [
          | inl same ↦ absurd (differ.0 ((bytes_eq-Decides p.interval q.interval).0 same))
          | inr other ↦ (cond-false (bytes_eq p.interval q.interval) (Some p.at) (place_in ps q.interval) other ∙ all.0, behind p ps qs differ.1 all.1)
        ]

-- what holds of each spot holds of a spot with an interval
of_interval : (P : ShapeSpot → Type 0) (spots : List ShapeSpot) (p : PlaceAt) → AllByRecursion P spots → IsOf spots p → (s : ShapeSpot) × (s.interval ≡ p.interval) × P s
of_interval P spots p all is = (is.1, is.4, subst P is.3 (All-from_recursion P spots all is.0 is.1 is.2))

map_all : (layout : Layout) (spots : List ShapeSpot) → AllByRecursion IsInside (map (placed layout) spots) → AllByRecursion (λ (s : ShapeSpot). IsInside (placed layout s)) spots
map_all layout [] all = tt
map_all layout (s ∷ ss) all = (all.0, map_all layout ss all.1)

-- a place of an interval of the shape is a place of the type's values
typed_at : (layout : Layout) (spots : List ShapeSpot) (p : PlaceAt) → AllByRecursion IsShapeSpot spots → AllByRecursion (λ (s : ShapeSpot). IsInside (placed layout s)) spots
    → IsOf spots p → place_in layout.places p.interval ≡ Some p.at → typed_place p
typed_at layout spots p shaped inside is gives =
    let one = of_interval IsShapeSpot spots p shaped is in
    let two = of_interval (λ (s : ShapeSpot). IsInside (placed layout s)) spots p inside is in
    let at : (placed layout two.0).at ≡ p.at = ap (λ id. unwrap_or (place_in layout.places id) 0) two.1 ∙ ap (λ o. unwrap_or o 0) gives in
    let high = two.2.high in
    record { interval = subst IsId one.1 one.2.interval; at = omega arith }

typed_all : (layout : Layout) (spots : List ShapeSpot) → AllByRecursion IsShapeSpot spots → AllByRecursion (λ (s : ShapeSpot). IsInside (placed layout s)) spots
    → (ps : List PlaceAt) → AllByRecursion (IsOf spots) ps → AllByRecursion (λ (p : PlaceAt). place_in layout.places p.interval ≡ Some p.at) ps → AllByRecursion typed_place ps
typed_all layout spots shaped inside [] known gives = tt
typed_all layout spots shaped inside (p ∷ ps) known gives =
    (typed_at layout spots p shaped inside known.0 gives.0, typed_all layout spots shaped inside ps known.1 gives.1)

pub accepted_without_fault : (layout : Layout) (shape : Shape) → IsShape shape → IsStackSize layout.stack_size → layout_fault layout shape ≡ None → accepted layout shape
accepted_without_fault layout shape shaped stack none =
    let xs = placed_spots layout shape in
    let a = none_or (unknown_fault shape.spots layout.places) _ none in
    let b = none_or (twice_fault layout.places) _ a.1 in
    let c = none_or (missing_fault layout.places shape.spots) _ b.1 in
    let d = none_or (outside_fault xs) _ c.1 in
    let e = none_or (unaligned_fault xs) _ d.1 in
    let known = all_through (λ (p : PlaceAt). not (is_known shape.spots p.interval) ≡ false) (IsOf shape.spots) (known_at shape.spots) layout.places
    (none_passes (λ (p : PlaceAt). not (is_known shape.spots p.interval)) layout.places (map_none _ _ a.0)) in
    let differ = (fresh_from [] layout.places (map_none _ _ b.0)).1 in
    let inside = inside_unless_found xs (map_none _ _ d.0) in
    let parts = all_append IsInside (map (placed layout) shape.spots) (placed_stack layout ∷ []) inside in
    let high = parts.1.0.high in
    let most = stack.most in
    record {
      values = record {
        places = typed_all layout shape.spots shaped.spots (map_all layout shape.spots parts.0) layout.places known (gives_it layout.places differ);
        stack_at = omega arith;
        stack_size = omega arith;
      };
      stack_size = stack;
      known = known;
      once = all_pairs Differ layout.places differ;
      each = all_through (λ (s : ShapeSpot). is_none (place_in layout.places s.interval) ≡ false) (λ (s : ShapeSpot). IsSome (place_in layout.places s.interval)) (λ s. some_from (place_in layout.places s.interval)) shape.spots
          (none_passes (λ (s : ShapeSpot). is_none (place_in layout.places s.interval)) shape.spots (map_none _ _ c.0));
      inside = inside;
      aligned = all_through (λ x. not (is_aligned x) ≡ false) IsAligned aligned_from xs (none_passes (λ x. not (is_aligned x)) xs (map_none _ _ e.0));
      apart = all_pairs AreApart xs (apart_without_fault xs e.1);
    }

pub no_fault_where_accepted : (layout : Layout) (shape : Shape) → accepted layout shape → layout_fault layout shape ≡ None
no_fault_where_accepted layout shape is =
    let xs = placed_spots layout shape in
    let a : unknown_fault shape.spots layout.places ≡ None = ap (option_map _) (finds_none (λ (p : PlaceAt). not (is_known shape.spots p.interval)) layout.places
    (all_through (IsOf shape.spots) (λ (p : PlaceAt). not (is_known shape.spots p.interval) ≡ false) (not_unknown shape.spots) layout.places is.known)) in
    let b : twice_fault layout.places ≡ None = ap (option_map _) (none_repeated [] layout.places (fresh_at_first layout.places) (pairs_from Differ layout.places is.once)) in
    let c : missing_fault layout.places shape.spots ≡ None = ap (option_map _) (finds_none (λ (s : ShapeSpot). is_none (place_in layout.places s.interval)) shape.spots
    (all_through (λ (s : ShapeSpot). IsSome (place_in layout.places s.interval)) (λ (s : ShapeSpot). is_none (place_in layout.places s.interval) ≡ false) (λ s. none_not (place_in layout.places s.interval)) shape.spots is.each)) in
    let d : outside_fault xs ≡ None = ap (option_map _) (finds_none (λ x. not (is_inside x)) xs (all_through IsInside (λ x. not (is_inside x) ≡ false) not_outside xs is.inside)) in
    let e : unaligned_fault xs ≡ None = ap (option_map _) (finds_none (λ x. not (is_aligned x)) xs (all_through IsAligned (λ x. not (is_aligned x) ≡ false) not_unaligned xs is.aligned)) in
    let f : overlap_fault (by_address (filter has_bytes xs)) ≡ None = no_fault_apart xs (pairs_from AreApart xs is.apart) in
    ap (λ o. option_or o (option_or (twice_fault layout.places) (option_or (missing_fault layout.places shape.spots) (option_or (outside_fault xs) (option_or (unaligned_fault xs) (overlap_fault (by_address (filter has_bytes xs)))))))) a
    ∙ ap (λ o. option_or o (option_or (missing_fault layout.places shape.spots) (option_or (outside_fault xs) (option_or (unaligned_fault xs) (overlap_fault (by_address (filter has_bytes xs))))))) b
    ∙ ap (λ o. option_or o (option_or (outside_fault xs) (option_or (unaligned_fault xs) (overlap_fault (by_address (filter has_bytes xs)))))) c
    ∙ ap (λ o. option_or o (option_or (unaligned_fault xs) (overlap_fault (by_address (filter has_bytes xs))))) d
    ∙ ap (λ o. option_or o (overlap_fault (by_address (filter has_bytes xs)))) e ∙ f

pub power_some : (k : ℕ) → 0 < 2 ^ k
power_some zero = lit< tt
power_some (suc k) = let below = power_some k in rw pow-suc (omega arith)

-- each alignment is above 0
pub aligns : (layout : Layout) (spots : List ShapeSpot) → AllByRecursion IsShapeSpot spots → AllByRecursion (λ (x : PlacedSpot). 0 < x.align) (map (placed layout) spots ++ placed_stack layout ∷ [])
aligns layout [] shaped = (lit< tt, tt)
aligns layout (s ∷ ss) shaped = (subst (λ n. 0 < n) (sym shaped.0.align.2) (power_some shaped.0.align.0), aligns layout ss shaped.1)
