-- Which shapes there are.
use Rattle.std.specs.Prelude.{◌≡◌, ◌≢◌, ◌≤◌, ◌<◌, ℕ, ◌%◌, ◌^◌, IfSome, AllPairs, length, sum_by}
use Rattle.std.specs.List.{AllByRecursion}
use Rattle.gt_model.specs.Typed.{IsId}
use Rattle.sym_expr.specs.declared.shape.Shape.{Shape}
use Rattle.sym_expr.specs.declared.shape.ShapeSpot.{ShapeSpot}

-- a power of two up to 4096
abbrev pub IsAlignment : ℕ → Type 0
IsAlignment n = (k : ℕ) × (k ≤ 12) × (n ≡ 2 ^ k)

-- a place in a page of 4096 bytes that suits the alignment
abbrev pub IsResidue : ℕ → ℕ → Type 0
IsResidue align r = (r < 4096) × (r % align ≡ 0)

pub record IsShapeSpot (s : ShapeSpot) : Type 0 where
  pub interval : IsId s.interval
  pub align : IsAlignment s.align
  pub residue : IfSome s.residue (IsResidue s.align)

-- what the intervals of a module or of a text have in common
pub record IsShape (shape : Shape) : Type 0 where
  pub count : length shape.spots < 2 ^ 40
  pub distinct : AllPairs (λ (s later : ShapeSpot). s.interval ≢ later.interval) shape.spots
  pub sizes : sum_by (λ (s : ShapeSpot). s.size) shape.spots < 2 ^ 62
  pub spots : AllByRecursion IsShapeSpot shape.spots
