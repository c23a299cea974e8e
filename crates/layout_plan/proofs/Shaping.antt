-- What a well-made program needs is a shape.
use Rattle.std.proofs.Common.{◌≡◌, ◌≢◌, ℕ, suc, ◌+◌, ◌*◌, ◌%◌, ◌/◌, ◌-◌, ◌^◌, ◌==◌, ◌<◌, ◌≤◌, Option, None, Some, IfSome, List, [], ◌∷◌, map, sum_by, length, get_or, drop, refl, sym, ap, subst, ◌∙◌, arith, inl, inr, pow-add, drop-cons}
use Rattle.std.specs.List.{AllByRecursion}
use Rattle.std.proofs.Math.Nat.{le-max_right, mod-lt, div-add-mod, mul-add-mod_self_left, mul_assoc}
use Rattle.std.proofs.lemmas.Bool.{cond-true, cond-false, cases_Bool, eqb-true}
use Rattle.std.proofs.lemmas.List.{length-map}
use Rattle.std.proofs.lemmas.List.Sums.{sum_by-cons}
use Rattle.sym_expr.specs.declared.program.Program.{Program}
use Rattle.sym_expr.specs.declared.program.Stretch.{Stretch}
use Rattle.sym_expr.specs.declared.program.Piece.{Piece}
use Rattle.sym_expr.specs.declared.program.Piece.TheVariants.{Code as CodePiece, Data as DataPiece, Gap}
use Rattle.sym_expr.specs.declared.shape.ShapeSpot.{ShapeSpot}
use Rattle.sym_expr.specs.Layouts.{least_from}
use Rattle.sym_expr.specs.Placing.{Placed, placed_from, end_from, needed, new_size, step_of, greatest, residue_of, spot_of, shape_of, stretch_size, stretch_alignment}
use Rattle.sym_expr.specs.Points.{data_size}
use Rattle.sym_expr.specs.Shapes.{IsAlignment, IsResidue, IsShape, IsShapeSpot}
use Rattle.sym_expr.specs.WellMade.{well_made}
use Rattle.gt_model.specs.Typed.{IsId}
use Rattle.layout_plan.proofs.Alignments.{effective_is, one_is, four_is, max_is}
use Rattle.layout_plan.proofs.Pairs.{Pairs, all_pairs, pairs_from}

needed_is : (x : Placed) → IsAlignment (needed x)
needed_is x = by_piece x.at x.piece
  where
    by_piece : (at : ℕ) (p : Piece) → IsAlignment (needed (record { at = at; piece = p }))
    by_piece at (CodePiece b) = four_is
    by_piece at (DataPiece b) = effective_is b.alignment (data_size b) at
    by_piece at (Gap bytes) = one_is

pub greatest_is : (xs : List Placed) → IsAlignment (greatest xs)
greatest_is [] = one_is
greatest_is (x ∷ xs) = max_is (needed x) (greatest xs) (needed_is x) (greatest_is xs)

pub greatest_some : (xs : List Placed) → 1 ≤ greatest xs
greatest_some [] = omega arith
greatest_some (x ∷ xs) = let rest = greatest_some xs in omega (arith, le-max_right (needed x) (greatest xs))

pub ends_behind : (at : ℕ) (ps : List Piece) → at ≤ end_from at ps
ends_behind at [] = omega arith
ends_behind at (p ∷ ps) = let rest = ends_behind (least_from at (step_of p) 0 + new_size p) ps in omega arith

-- a piece ends at the end of all or before it
pub ends_before : (at i total : ℕ) (ps items : List Piece) (p : Piece) → items ≡ ps → i < length items → p ≡ get_or items i p → end_from at (drop i ps) ≡ total
    → least_from at (step_of p) 0 + new_size p ≤ total
ends_before at i total ps items p same there found ends =
    let within : i < length ps = subst (λ (xs : List Piece). i < length xs) same there in
    let is : p ≡ get_or ps i p = subst (λ (xs : List Piece). p ≡ get_or xs i p) same found in
    let parts : drop i ps ≡ p ∷ drop (suc i) ps = drop-cons ps i p within ∙ ap (λ q. q ∷ drop (suc i) ps) (sym is) in
    let whole : end_from (least_from at (step_of p) 0 + new_size p) (drop (suc i) ps) ≡ total = sym (ap (end_from at) parts) ∙ ends in
    let rest = ends_behind (least_from at (step_of p) 0 + new_size p) (drop (suc i) ps) in omega arith

-- an address that suits an alignment suits it in its page
in_page : (align at : ℕ) → IsAlignment align → at % align ≡ 0 → at % 4096 % align ≡ 0
in_page align at is suits =
    let k = is.0 in
    let parts : k + (12 - k) ≡ 12 = omega (arith, is.1) in
    let divides : 4096 ≡ align * 2 ^ (12 - k) = ap (λ n. 2 ^ n) (sym parts) ∙ pow-add 2 k (12 - k) ∙ ap (λ a. a * 2 ^ (12 - k)) (sym is.2) in
    let whole : align * (2 ^ (12 - k) * (at / 4096)) + at % 4096 ≡ at =
    ap (λ n. n + at % 4096) (sym (mul_assoc align (2 ^ (12 - k)) (at / 4096)) ∙ ap (λ n. n * (at / 4096)) (sym divides)) ∙ div-add-mod at 4096 in
    sym (mul-add-mod_self_left align (2 ^ (12 - k) * (at / 4096)) (at % 4096)) ∙ ap (λ n. n % align) whole ∙ suits

residue_is : (align : ℕ) (address : Option ℕ) → IsAlignment align → IfSome (residue_of align address) (IsResidue align)
residue_is align None is = tt
residue_is align (Some at) is =
    elim (cases_Bool (at % align == 0)) [
      | inl passes ↦ subst (λ (r : Option ℕ). IfSome r (IsResidue align)) (sym (cond-true (at % align == 0) (Some (at % 4096)) None passes)) (mod-lt at (omega arith), in_page align at is (eqb-true (at % align) 0 passes))
      | inr fails ↦ subst (λ (r : Option ℕ). IfSome r (IsResidue align)) (sym (cond-false (at % align == 0) (Some (at % 4096)) None fails)) tt
    ]

all_shaped : (ss : List Stretch) → AllByRecursion (λ (s : Stretch). IsId s.id) ss → AllByRecursion IsShapeSpot (map spot_of ss)
all_shaped [] ids = tt
all_shaped (s ∷ ss) ids =
    let align = greatest_is (placed_from 0 s.pieces) in
    (record { interval = ids.0; align = align; residue = residue_is (stretch_alignment s) s.address align }, all_shaped ss ids.1)

others : (id : List ℕ) (ss : List Stretch) → AllByRecursion (λ (s : Stretch). id ≢ s.id) ss → AllByRecursion (λ (s : ShapeSpot). id ≢ s.interval) (map spot_of ss)
others id [] all = tt
others id (s ∷ ss) all = (all.0, others id ss all.1)

differ : (ss : List Stretch) → Pairs (λ (s later : Stretch). s.id ≢ later.id) ss → Pairs (λ (s later : ShapeSpot). s.interval ≢ later.interval) (map spot_of ss)
differ [] pairs = tt
differ (s ∷ ss) pairs = (others s.id ss pairs.0, differ ss pairs.1)

same_sizes : (ss : List Stretch) → sum_by (λ (s : ShapeSpot). s.size) (map spot_of ss) ≡ sum_by stretch_size ss
same_sizes [] = refl
same_sizes (s ∷ ss) =
    sum_by-cons (λ (t : ShapeSpot). t.size) (spot_of s) (map spot_of ss) ∙ ap (λ n. stretch_size s + n) (same_sizes ss) ∙ sym (sum_by-cons stretch_size s ss)

pub shape_is : (g : Program) → well_made g → IsShape (shape_of g)
shape_is g made =
    let ss = g.stretches in
    record {
      count = subst (λ n. n < 2 ^ 40) (sym (length-map ss spot_of)) made.count;
      distinct = all_pairs (λ (s later : ShapeSpot). s.interval ≢ later.interval) (map spot_of ss) (differ ss (pairs_from (λ (s later : Stretch). s.id ≢ later.id) ss made.distinct));
      sizes = subst (λ n. n < 2 ^ 62) (sym (same_sizes ss)) made.sizes;
      spots = all_shaped ss made.ids;
    }
