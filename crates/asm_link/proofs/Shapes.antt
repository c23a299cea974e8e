-- What is asked of a module is what a shape needs.
use Rattle.std.proofs.Common.{◌≡◌, ◌≢◌, List, [], ◌∷◌, map, sum_by, refl, arith}
use Rattle.std.specs.List.{AllByRecursion}
use Rattle.std.proofs.lemmas.List.{length-map}
use Rattle.std.proofs.lemmas.List.Sums.{sum_by-cons}
use Rattle.asm_modules.specs.declared.module.AsmInterval.{AsmInterval}
use Rattle.asm_modules.specs.declared.module.AsmModule.{AsmModule}
use Rattle.asm_modules.specs.Valid.{asm_ok, interval_size, IsInterval}
use Rattle.sym_expr.specs.declared.shape.ShapeSpot.{ShapeSpot}
use Rattle.sym_expr.specs.Shapes.{IsShape, IsShapeSpot}
use Rattle.asm_link.specs.Shaping.{shape_asm, spot_of}
use Rattle.asm_link.proofs.Lists.{Pairs, all_pairs, pairs_from}

spot_sizes : (is : List AsmInterval) → sum_by (λ (s : ShapeSpot). s.size) (map spot_of is) ≡ sum_by interval_size is
spot_sizes [] = refl
spot_sizes (i ∷ is) =
    omega (arith, sum_by-cons (λ (s : ShapeSpot). s.size) (spot_of i) (map spot_of is), sum_by-cons interval_size i is, spot_sizes is)

abbrev Unlike : ShapeSpot → ShapeSpot → Type 0
Unlike s later = s.interval ≢ later.interval

abbrev UnlikeOf : AsmInterval → AsmInterval → Type 0
UnlikeOf i later = i.uuid ≢ later.uuid

unlike_rest : (i : AsmInterval) (is : List AsmInterval) → AllByRecursion (UnlikeOf i) is → AllByRecursion (Unlike (spot_of i)) (map spot_of is)
unlike_rest i [] all = tt
unlike_rest i (j ∷ js) all = (all.0, unlike_rest i js all.1)

unlike_each : (is : List AsmInterval) → Pairs UnlikeOf is → Pairs Unlike (map spot_of is)
unlike_each [] all = tt
unlike_each (i ∷ is) all = (unlike_rest i is all.0, unlike_each is all.1)

spot_each : (is : List AsmInterval) → AllByRecursion IsInterval is → AllByRecursion IsShapeSpot (map spot_of is)
spot_each [] all = tt
spot_each (i ∷ is) all = (record { interval = all.0.uuid; align = all.0.align; residue = all.0.residue }, spot_each is all.1)

pub shape_is : (m : AsmModule) → asm_ok m → IsShape (shape_asm m)
shape_is m ok =
    let many = length-map m.intervals spot_of in
    let count = ok.count in
    let sum = spot_sizes m.intervals in
    let sizes = ok.sizes in
    record {
      count = omega arith;
      distinct = all_pairs Unlike (map spot_of m.intervals) (unlike_each m.intervals (pairs_from UnlikeOf m.intervals ok.distinct));
      sizes = omega arith;
      spots = spot_each m.intervals ok.intervals;
    }
