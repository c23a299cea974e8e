-- Default layouts are accepted.
use Rattle.std.proofs.Common.{◌≡◌, ◌≢◌, ℕ, ◌+◌, ◌-◌, ◌*◌, ◌/◌, ◌%◌, ◌^◌, ◌<◌, ◌≤◌, Option, Some, None, IsSome, IfSome, List, [], ◌∷◌, ◌++◌, map, get_or, refl, sym, ap, subst, ◌∙◌, arith, lit≤, lit<, inl, pow-add}
use Rattle.std.specs.Option.{unwrap_or, is_some}
use Rattle.std.specs.List.{AllByRecursion, Any}
use Rattle.std.proofs.Math.Pow.{pow_mono}
use Rattle.std.proofs.Math.Nat.{div-add-mod, mul-add-mod_self_left, mul_assoc}
use Rattle.std.proofs.lemmas.List.{get_or_default}
use Rattle.std.proofs.lemmas.List.Elements.{recursion_from_All}
use Rattle.gt_model.specs.Typed.{IsId}
use Rattle.sym_expr.specs.declared.layout.Layout.{Layout}
use Rattle.sym_expr.specs.declared.layout.PlaceAt.{PlaceAt}
use Rattle.sym_expr.specs.declared.layout.PlacedSpot.{PlacedSpot}
use Rattle.sym_expr.specs.declared.layout.Spot.TheVariants.{Interval}
use Rattle.sym_expr.specs.declared.shape.Shape.{Shape}
use Rattle.sym_expr.specs.declared.shape.ShapeSpot.{ShapeSpot}
use Rattle.sym_expr.specs.Shapes.{IsAlignment, IsResidue, IsShape, IsShapeSpot}
use Rattle.sym_expr.specs.Layouts.{least_from, next_place, places_from, end_from, default_of, typed_place, place_in, placed, placed_stack, placed_spots, end_of, IsInside, IsAligned, AreApart, accepted}
use Rattle.layout_plan.proofs.Pairs.{Pairs, all_pairs, pairs_from, all_through}
use Rattle.layout_plan.proofs.Accepting.{Differ, gives_it, power_some}
use Rattle.layout_plan.proofs.Least.{least_remainder}

pub alignment_most : (n : ℕ) → IsAlignment n → n ≤ 4096
alignment_most n is = subst (λ m. m ≤ 4096) (sym is.2) (pow_mono is.1)

alignment_some : (n : ℕ) → IsAlignment n → 0 < n
alignment_some n is = subst (λ m. 0 < m) (sym is.2) (power_some is.0)

-- a multiple of the spacing plus the residue suits the alignment
aligned_place : (cursor align : ℕ) (residue : Option ℕ) → IsAlignment align → IfSome residue (IsResidue align)
    → next_place cursor (record { interval = []; size = 0; align = align; residue = residue }) % align ≡ 0
aligned_place cursor align None is suits = least_remainder cursor align 0 (alignment_some align is)
aligned_place cursor align (Some r) is suits =
    let k = is.0 in
    let parts : k + (12 - k) ≡ 12 = omega (arith, is.1) in
    let divides : 4096 ≡ align * 2 ^ (12 - k) = ap (λ n. 2 ^ n) (sym parts) ∙ pow-add 2 k (12 - k) ∙ ap (λ a. a * 2 ^ (12 - k)) (sym is.2) in
    let at = least_remainder cursor 4096 r suits.0 in
    let whole : align * (2 ^ (12 - k)) * (least_from cursor 4096 r / 4096) + r ≡ least_from cursor 4096 r =
    ap (λ n. n * (least_from cursor 4096 r / 4096) + r) (sym divides) ∙ ap (λ n. 4096 * (least_from cursor 4096 r / 4096) + n) (sym at) ∙ div-add-mod (least_from cursor 4096 r) 4096 in
    ap (λ n. n % align) (sym whole ∙ ap (λ n. n + r) (mul_assoc align (2 ^ (12 - k)) (least_from cursor 4096 r / 4096)))
    ∙ mul-add-mod_self_left align (2 ^ (12 - k) * (least_from cursor 4096 r / 4096)) r ∙ suits.1

-- the spots of the places that follow one another
abbrev spots_from : ℕ → List ShapeSpot → List PlacedSpot
spots_from cursor [] = []
spots_from cursor (s ∷ ss) = record { spot = Interval s.interval; at = next_place cursor s; size = s.size; align = s.align } ∷ spots_from (next_place cursor s + s.size) ss

placed_alike : (layout : Layout) (cursor : ℕ) (ss : List ShapeSpot) → AllByRecursion (λ (p : PlaceAt). place_in layout.places p.interval ≡ Some p.at) (places_from cursor ss)
    → map (placed layout) ss ≡ spots_from cursor ss
placed_alike layout cursor [] gives = refl
placed_alike layout cursor (s ∷ ss) gives =
    ap (λ (o : Option ℕ). record { spot = Interval s.interval; at = unwrap_or o 0; size = s.size; align = s.align } ∷ map (placed layout) ss) gives.0
    ∙ ap (λ (xs : List PlacedSpot). record { spot = Interval s.interval; at = next_place cursor s; size = s.size; align = s.align } ∷ xs) (placed_alike layout (next_place cursor s + s.size) ss gives.1)

-- each interval has a place, and each place an interval
each_placed : (places : List PlaceAt) (cursor : ℕ) (ss : List ShapeSpot) → AllByRecursion (λ (p : PlaceAt). place_in places p.interval ≡ Some p.at) (places_from cursor ss)
    → AllByRecursion (λ (s : ShapeSpot). IsSome (place_in places s.interval)) ss
each_placed places cursor [] gives = tt
each_placed places cursor (s ∷ ss) gives = (ap (is_some) gives.0, each_placed places (next_place cursor s + s.size) ss gives.1)

over_places : (P : List ℕ → Type 0) (cursor : ℕ) (ss : List ShapeSpot) → AllByRecursion (λ (s : ShapeSpot). P s.interval) ss → AllByRecursion (λ (p : PlaceAt). P p.interval) (places_from cursor ss)
over_places P cursor [] all = tt
over_places P cursor (s ∷ ss) all = (all.0, over_places P (next_place cursor s + s.size) ss all.1)

differ_from : (cursor : ℕ) (ss : List ShapeSpot) → Pairs (λ (s later : ShapeSpot). s.interval ≢ later.interval) ss → Pairs Differ (places_from cursor ss)
differ_from cursor [] pairs = tt
differ_from cursor (s ∷ ss) pairs = (over_places (λ id. s.interval ≢ id) (next_place cursor s + s.size) ss pairs.0, differ_from (next_place cursor s + s.size) ss pairs.1)

-- a spot from the cursor on that ends before the end of all
pub record Between (first last : ℕ) (x : PlacedSpot) : Type 0 where
  pub low : first ≤ x.at
  pub high : end_of x ≤ last

widen : (a b last : ℕ) → a ≤ b → (xs : List PlacedSpot) → AllByRecursion (Between b last) xs → AllByRecursion (Between a last) xs
widen a b last le xs all = all_through (Between b last) (Between a last) (λ x h. let low = h.low in record { low = omega arith; high = h.high }) xs all

between : (cursor : ℕ) (ss : List ShapeSpot) → (cursor ≤ end_from cursor ss) × AllByRecursion (Between cursor (end_from cursor ss)) (spots_from cursor ss)
between cursor [] = (omega arith, tt)
between cursor (s ∷ ss) =
    let next = next_place cursor s + s.size in
    let rest = between next ss in
    let le = rest.0 in
    (omega arith, (record { low = omega arith; high = le }, widen cursor next (end_from next ss) (omega arith) (spots_from next ss) rest.1))

apart_in_order : (x : PlacedSpot) (first last : ℕ) (xs : List PlacedSpot) → end_of x ≤ first → AllByRecursion (Between first last) xs → AllByRecursion (AreApart x) xs
apart_in_order x first last xs le all = all_through (Between first last) (AreApart x) (λ y h. let low = h.low in λ some other. inl (omega arith)) xs all

all_end : (P : PlacedSpot → Type 0) (xs : List PlacedSpot) (z : PlacedSpot) → AllByRecursion P xs → P z → AllByRecursion P (xs ++ z ∷ [])
all_end P [] z all one = (one, tt)
all_end P (x ∷ xs) z all one = (all.0, all_end P xs z all.1 one)

-- with something that begins at the end of all or behind it
all_apart : (cursor : ℕ) (ss : List ShapeSpot) (z : PlacedSpot) → end_from cursor ss ≤ z.at → Pairs AreApart (spots_from cursor ss ++ z ∷ [])
all_apart cursor [] z behind = (tt, tt)
all_apart cursor (s ∷ ss) z behind =
    let x : PlacedSpot = record { spot = Interval s.interval; at = next_place cursor s; size = s.size; align = s.align } in
    let next = next_place cursor s + s.size in
    let rest = between next ss in
    let le = rest.0 in
    let stay : end_of x ≤ next = omega arith in
    (all_end (AreApart x) (spots_from next ss) z (apart_in_order x next (end_from next ss) (spots_from next ss) stay rest.1) (λ some other. inl (omega arith)), all_apart next ss z behind)

all_aligned : (cursor : ℕ) (ss : List ShapeSpot) → AllByRecursion IsShapeSpot ss → AllByRecursion IsAligned (spots_from cursor ss)
all_aligned cursor [] shaped = tt
all_aligned cursor (s ∷ ss) shaped = (aligned_place cursor s.align s.residue shaped.0.align shaped.0.residue, all_aligned (next_place cursor s + s.size) ss shaped.1)

-- each place is below the end of all
places_below : (cursor : ℕ) (ss : List ShapeSpot) → AllByRecursion (λ (p : PlaceAt). p.at ≤ end_from cursor ss) (places_from cursor ss)
places_below cursor [] = tt
places_below cursor (s ∷ ss) = let next = next_place cursor s + s.size in let le = (between next ss).0 in (omega arith, places_below next ss)

typed_from : (last : ℕ) (ps : List PlaceAt) → last < 2 ^ 64 → AllByRecursion (λ (p : PlaceAt). IsId p.interval) ps → AllByRecursion (λ (p : PlaceAt). p.at ≤ last) ps → AllByRecursion typed_place ps
typed_from last [] small ids below = tt
typed_from last (p ∷ ps) small ids below = let le = below.0 in (record { interval = ids.0; at = omega arith }, typed_from last ps small ids.1 below.1)

pub default_accepted : (shape : Shape) → IsShape shape → (default_of shape).stack_at + (default_of shape).stack_size ≤ 2 ^ 47 → accepted (default_of shape) shape
default_accepted shape shaped fits =
    let layout = default_of shape in
    let ss = shape.spots in
    let last = end_from 65536 ss in
    let stack_from : last + 4096 ≤ layout.stack_at = omega arith in
    let ids = all_through IsShapeSpot (λ (s : ShapeSpot). IsId s.interval) (λ s h. h.interval) ss shaped.spots in
    let differ = differ_from 65536 ss (pairs_from (λ (s later : ShapeSpot). s.interval ≢ later.interval) ss shaped.distinct) in
    let gives = gives_it (places_from 65536 ss) differ in
    let alike : placed_spots layout shape ≡ spots_from 65536 ss ++ placed_stack layout ∷ [] = ap (λ xs. xs ++ placed_stack layout ∷ []) (placed_alike layout 65536 ss gives) in
    let order = between 65536 ss in
    let inside = all_through (Between 65536 last) IsInside (λ x h. let low = h.low in let high = h.high in record { low = omega arith; high = omega arith }) (spots_from 65536 ss) order.1 in
    record {
      values = record {
        places = typed_from last (places_from 65536 ss) (omega arith) (over_places IsId 65536 ss ids) (places_below 65536 ss);
        stack_at = omega arith;
        stack_size = lit< tt;
      };
      stack_size = record { aligned = refl; some = lit≤ tt; most = lit≤ tt };
      known = over_places (λ id. Any (λ (s : ShapeSpot). s.interval ≡ id) ss) 65536 ss (recursion_from_All (λ (s : ShapeSpot). Any (λ (t : ShapeSpot). t.interval ≡ s.interval) ss) ss (λ k d lt. (k, get_or ss k d, lt, get_or_default ss k (get_or ss k d) d lt, refl)));
      once = all_pairs Differ (places_from 65536 ss) differ;
      each = each_placed (places_from 65536 ss) 65536 ss gives;
      inside = subst (AllByRecursion IsInside) (sym alike) (all_end IsInside (spots_from 65536 ss) (placed_stack layout) inside (record { low = omega arith; high = fits }));
      aligned = subst (AllByRecursion IsAligned) (sym alike) (all_end IsAligned (spots_from 65536 ss) (placed_stack layout) (all_aligned 65536 ss shaped.spots) (least_remainder (last + 4096) 16 0 (lit< tt)));
      apart = all_pairs AreApart (placed_spots layout shape) (subst (Pairs AreApart) (sym alike) (all_apart 65536 ss (placed_stack layout) (omega arith)));
    }
