-- Where the intervals of a shape and the stack lie: accepted layouts, and the default one.
use Rattle.std.specs.Prelude.{◌≡◌, ◌≢◌, ◌⊎◌, ◌≤◌, ◌<◌, ℕ, ◌+◌, ◌-◌, ◌%◌, ◌^◌, Option, Some, None, IsSome, is_some, List, [], ◌∷◌, ◌++◌, map, AllPairs, Any, unwrap_or, if◌then◌else◌}
use Rattle.std.specs.List.{AllByRecursion}
use Rattle.std.specs.Str.{bytes_eq}
use Rattle.gt_model.specs.Typed.{IsId, IsU64}
use Rattle.sym_expr.specs.declared.layout.Layout.{Layout}
use Rattle.sym_expr.specs.declared.layout.PlaceAt.{PlaceAt}
use Rattle.sym_expr.specs.declared.layout.PlacedSpot.{PlacedSpot}
use Rattle.sym_expr.specs.declared.layout.Spot.TheVariants as spots
use Rattle.sym_expr.specs.declared.shape.Shape.{Shape}
use Rattle.sym_expr.specs.declared.shape.ShapeSpot.{ShapeSpot}

-- a stack's size: a multiple of 16 from 16 to 2 ^ 24
pub record IsStackSize (n : ℕ) : Type 0 where
  pub aligned : n % 16 ≡ 0
  pub some : 16 ≤ n
  pub most : n ≤ 2 ^ 24

pub record typed_place (p : PlaceAt) : Type 0 where
  pub interval : IsId p.interval
  pub at : IsU64 p.at

-- each number is a value of its field's type
pub record typed_layout (layout : Layout) : Type 0 where
  pub places : AllByRecursion typed_place layout.places
  pub stack_at : IsU64 layout.stack_at
  pub stack_size : IsU64 layout.stack_size

-- the address that places give an interval
abbrev pub place_in : List PlaceAt → List ℕ → Option ℕ
place_in [] id = None
place_in (p ∷ ps) id = if bytes_eq p.interval id then Some p.at else place_in ps id

-- the address of an interval under a layout that has it
abbrev pub address_of : Layout → List ℕ → ℕ
address_of layout id = unwrap_or (place_in layout.places id) 0

-- an interval where the layout puts it
abbrev pub placed : Layout → ShapeSpot → PlacedSpot
placed layout s = record { spot = spots.Interval s.interval; at = address_of layout s.interval; size = s.size; align = s.align }

-- the stack, on a multiple of 16
abbrev pub placed_stack : Layout → PlacedSpot
placed_stack layout = record { spot = spots.Stack; at = layout.stack_at; size = layout.stack_size; align = 16 }

-- all spots in module order, the stack last
abbrev pub placed_spots : Layout → Shape → List PlacedSpot
placed_spots layout shape = map (placed layout) shape.spots ++ placed_stack layout ∷ []

-- the address after a spot
abbrev pub end_of : PlacedSpot → ℕ
end_of x = x.at + x.size

-- from 4096 to 2 ^ 47, end included
pub record IsInside (x : PlacedSpot) : Type 0 where
  pub low : 4096 ≤ x.at
  pub high : end_of x ≤ 2 ^ 47

abbrev pub IsAligned : PlacedSpot → Type 0
IsAligned x = x.at % x.align ≡ 0

-- two spots share no byte, as far as neither is empty
abbrev pub AreApart : PlacedSpot → PlacedSpot → Type 0
AreApart x y = 0 < x.size → 0 < y.size → (end_of x ≤ y.at) ⊎ (end_of y ≤ x.at)

-- the layout places each interval of the shape once and nothing else, and each spot lies inside, aligned and apart
pub record accepted (layout : Layout) (shape : Shape) : Type 0 where
  pub values : typed_layout layout
  pub stack_size : IsStackSize layout.stack_size
  pub known : AllByRecursion (λ (p : PlaceAt). Any (λ (s : ShapeSpot). s.interval ≡ p.interval) shape.spots) layout.places
  pub once : AllPairs (λ (p later : PlaceAt). p.interval ≢ later.interval) layout.places
  pub each : AllByRecursion (λ (s : ShapeSpot). IsSome (place_in layout.places s.interval)) shape.spots
  pub inside : AllByRecursion IsInside (placed_spots layout shape)
  pub aligned : AllByRecursion IsAligned (placed_spots layout shape)
  pub apart : AllPairs AreApart (placed_spots layout shape)

-- the least number from n on that leaves the remainder r modulo m
abbrev pub least_from : (n m r : ℕ) → ℕ
least_from n m r = n + (r + (m - n % m)) % m

-- an interval with a residue keeps it modulo 4096, and any other stands on a multiple of its alignment
abbrev pub spacing : ShapeSpot → ℕ
spacing s = if is_some s.residue then 4096 else s.align

-- the least address from the cursor on that suits an interval
abbrev pub next_place : ℕ → ShapeSpot → ℕ
next_place cursor s = least_from cursor (spacing s) (unwrap_or s.residue 0)

-- intervals one after another from the cursor on
abbrev pub places_from : ℕ → List ShapeSpot → List PlaceAt
places_from cursor [] = []
places_from cursor (s ∷ ss) = record { interval = s.interval; at = next_place cursor s } ∷ places_from (next_place cursor s + s.size) ss

-- where the last of them ends
abbrev pub end_from : ℕ → List ShapeSpot → ℕ
end_from cursor [] = cursor
end_from cursor (s ∷ ss) = end_from (next_place cursor s + s.size) ss

-- the default layout: intervals from 65536 on, and 4096 bytes behind the last a stack of 65536 bytes
abbrev pub default_of : Shape → Layout
default_of shape = record {
  places = places_from 65536 shape.spots;
  stack_at = least_from (end_from 65536 shape.spots + 4096) 16 0;
  stack_size = 65536;
}
