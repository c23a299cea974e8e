-- The first fault of a layout for a shape: by kind, in the order of the kinds.
use Rattle.std.specs.Prelude.{ℕ, ◌%◌, ◌^◌, ◌==◌, nat_lt, nat_le, Bool, ◌&&◌, not, Option, Some, None, is_some, is_none, List, [], ◌∷◌, ◌++◌, find, filter, if◌then◌else◌}
use Rattle.std.specs.List.{list_any}
use Rattle.std.specs.Option.{option_map, option_or}
use Rattle.std.specs.Str.{bytes_eq}
use Rattle.sym_expr.specs.declared.layout.Layout.{Layout}
use Rattle.sym_expr.specs.declared.layout.PlaceAt.{PlaceAt}
use Rattle.sym_expr.specs.declared.layout.PlacedSpot.{PlacedSpot}
use Rattle.sym_expr.specs.declared.shape.Shape.{Shape}
use Rattle.sym_expr.specs.declared.shape.ShapeSpot.{ShapeSpot}
use Rattle.sym_expr.specs.Layouts.{place_in, placed_spots, end_of}
use Rattle.layout_plan.specs.declared.fault.LayoutFault.{LayoutFault}
use Rattle.layout_plan.specs.declared.fault.LayoutFault.TheVariants.{Unknown, Twice, Missing, Outside, Unaligned, Overlap}

-- whether the shape has the interval
abbrev pub is_known : List ShapeSpot → List ℕ → Bool
is_known spots id = list_any (λ (s : ShapeSpot). bytes_eq s.interval id) spots

-- the first place of an interval that the shape doesn't have
abbrev pub unknown_fault : List ShapeSpot → List PlaceAt → Option LayoutFault
unknown_fault spots places = option_map (λ (p : PlaceAt). Unknown p.interval) (find (λ (p : PlaceAt). not (is_known spots p.interval)) places)

-- the first place, behind those before, of an interval that has one already
abbrev pub repeated : List PlaceAt → List PlaceAt → Option PlaceAt
repeated before [] = None
repeated before (p ∷ ps) = if is_some (place_in before p.interval) then Some p else repeated (before ++ p ∷ []) ps

abbrev pub twice_fault : List PlaceAt → Option LayoutFault
twice_fault places = option_map (λ (p : PlaceAt). Twice p.interval) (repeated [] places)

-- the first interval without a place
abbrev pub missing_fault : List PlaceAt → List ShapeSpot → Option LayoutFault
missing_fault places spots = option_map (λ (s : ShapeSpot). Missing s.interval) (find (λ (s : ShapeSpot). is_none (place_in places s.interval)) spots)

abbrev pub is_inside : PlacedSpot → Bool
is_inside x = nat_le 4096 x.at && nat_le (end_of x) (2 ^ 47)

-- the first spot that isn't inside
abbrev pub outside_fault : List PlacedSpot → Option LayoutFault
outside_fault xs = option_map (λ (x : PlacedSpot). Outside x.spot) (find (λ x. not (is_inside x)) xs)

abbrev pub is_aligned : PlacedSpot → Bool
is_aligned x = x.at % x.align == 0

-- the first spot that isn't aligned
abbrev pub unaligned_fault : List PlacedSpot → Option LayoutFault
unaligned_fault xs = option_map (λ (x : PlacedSpot). Unaligned x.spot) (find (λ x. not (is_aligned x)) xs)

abbrev pub has_bytes : PlacedSpot → Bool
has_bytes x = nat_lt 0 x.size

-- a spot before the first that doesn't begin below it
abbrev pub put_by_address : PlacedSpot → List PlacedSpot → List PlacedSpot
put_by_address x [] = x ∷ []
put_by_address x (y ∷ ys) = if nat_le x.at y.at then x ∷ y ∷ ys else y ∷ put_by_address x ys

-- in the order of addresses, and at one address in the order that they have
abbrev pub by_address : List PlacedSpot → List PlacedSpot
by_address [] = []
by_address (x ∷ xs) = put_by_address x (by_address xs)

-- behind a spot, the first neighbours of which the second begins before the first's end
abbrev pub overlap_after : PlacedSpot → List PlacedSpot → Option LayoutFault
overlap_after x [] = None
overlap_after x (y ∷ ys) = if nat_lt y.at (end_of x) then Some (Overlap x.spot y.spot) else overlap_after y ys

-- the first of all
abbrev pub overlap_fault : List PlacedSpot → Option LayoutFault
overlap_fault [] = None
overlap_fault (x ∷ xs) = overlap_after x xs

-- of the kinds that there are, the first
abbrev pub layout_fault : Layout → Shape → Option LayoutFault
layout_fault layout shape =
    option_or (unknown_fault shape.spots layout.places)
    (option_or (twice_fault layout.places)
    (option_or (missing_fault layout.places shape.spots)
    (option_or (outside_fault (placed_spots layout shape))
    (option_or (unaligned_fault (placed_spots layout shape))
    (overlap_fault (by_address (filter has_bytes (placed_spots layout shape))))))))
