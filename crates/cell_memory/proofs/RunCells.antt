-- Cells that are the first parts of what is stored whole, as they were stored.
use Rattle.std.proofs.Common.{◌≡◌, ℕ, zero, suc, ◌+◌, ◌<◌, ◌≤◌, true, false, cond, eqb, ◌&&◌, ◌||◌, Option, Some, None, IfSome, List, [], ◌∷◌, length, take, drop, replicate, refl, sym, ap, ◌∙◌, arith}
use Rattle.std.specs.List.{list_all, list_any}
use Rattle.std.specs.Option.{option_and_then, option_map_or}
use Rattle.std.specs.Str.{bytes_eq}
use Rattle.std.proofs.lemmas.Bool.{and_from, and_parts, cond-true, eq-eqb, eqb-true}
use Rattle.std.proofs.lemmas.Slice.Eq.{bytes_eq-Decides}
use Rattle.cell_memory.specs.declared.whole.Whole.{Whole}
use Rattle.cell_memory.specs.declared.whole.Whole.TheVariants.{Value, Difference, Entry}
use Rattle.cell_memory.specs.declared.cells.TheConstants.{MARKS}
use Rattle.cell_memory.specs.Shown.{Kept, cells_from, part_of, span}
use Rattle.cell_memory.proofs.Changes.{run_cells}
use Rattle.cell_memory.proofs.Runs.{cells_between, length-cells}
use Rattle.std.proofs.lemmas.List.{length-drop, length-take}
use Rattle.cell_memory.specs.Wholes.{are_parts_of, is_part_of, same_whole, whole_in}
use Rattle.cell_memory.proofs.Parts.{part_back, part_known}
use Rattle.sym_expr.specs.declared.point.Point.{Point}
use Rattle.sym_expr.specs.declared.target.Target.{Target}
use Rattle.sym_expr.specs.declared.target.Target.TheVariants as targets
use Rattle.sym_expr.specs.declared.value.Object.{Object}
use Rattle.sym_expr.specs.declared.value.Object.TheVariants.{Block, Stack}
use Rattle.sym_expr.specs.declared.value.Value.{Value as ValueOf}
use Rattle.sym_expr.specs.declared.value.Value.TheVariants as values
use Rattle.sym_expr.specs.States.{parts_from}
use Rattle.sym_expr.specs.Symbolic.{is_blank}
use Rattle.sym_expr.specs.Values.{same_object, same_point, same_target, same_value}

-- ---- each is the same as itself

id_itself : (id : List ℕ) → bytes_eq id id ≡ true
id_itself id = (bytes_eq-Decides id id).1 refl

number_itself : (n : ℕ) → eqb n n ≡ true
number_itself n = eq-eqb n n refl

point_itself : (p : Point) → same_point p p ≡ true
point_itself p = and_from (bytes_eq p.block p.block) (eqb p.offset p.offset && eqb p.j p.j) (id_itself p.block) (and_from (eqb p.offset p.offset) (eqb p.j p.j) (number_itself p.offset) (number_itself p.j))

target_itself : (t : Target) → same_target t t ≡ true
target_itself (targets.Number n) = number_itself n
target_itself (targets.Address block offset) = and_from (bytes_eq block block) (eqb offset offset) (id_itself block) (number_itself offset)
target_itself (targets.Code p) = point_itself p
target_itself (targets.Undefined symbol) = id_itself symbol

object_itself : (o : Object) → same_object o o ≡ true
object_itself (Block id) = id_itself id
object_itself Stack = refl

value_itself : (v : ValueOf) → same_value v v ≡ true
value_itself (values.Num n) = number_itself n
value_itself (values.Addr o x) = and_from (same_object o o) (eqb x x) (object_itself o) (number_itself x)
value_itself (values.At p) = point_itself p
value_itself (values.PageOf t) = target_itself t
value_itself (values.Diff p q) = and_from (same_target p p) (same_target q q) (target_itself p) (target_itself q)
value_itself (values.Step p q n) = and_from (same_point p p) (same_point q q && eqb n n) (point_itself p) (and_from (same_point q q) (eqb n n) (point_itself q) (number_itself n))

whole_itself : (w : Whole) → same_whole w w ≡ true
whole_itself (Value v) = value_itself v
whole_itself (Difference p q) = and_from (same_target p p) (same_target q q) (target_itself p) (target_itself q)
whole_itself (Entry e) =
    and_from (eqb e.size e.size) (eqb e.scale e.scale && (same_point e.first e.first && same_point e.second e.second)) (number_itself e.size)
    (and_from (eqb e.scale e.scale) (same_point e.first e.first && same_point e.second e.second) (number_itself e.scale)
    (and_from (same_point e.first e.first) (same_point e.second e.second) (point_itself e.first) (point_itself e.second)))

-- ---- parts of one whole

part_itself : (w : Whole) (k : ℕ) → is_part_of k w (part_of w k) ≡ true
part_itself w k =
    ap (λ (o : Option (ℕ × Whole)). option_map_or (λ (p : ℕ × Whole). eqb p.0 k && same_whole w p.1) o false) (part_back w k)
    ∙ and_from (eqb k k) (same_whole w w) (number_itself k) (whole_itself w)

parts_themselves : (w : Whole) (n k : ℕ) → are_parts_of k w (parts_from n k (part_of w)) ≡ true
parts_themselves w zero k = refl
parts_themselves w (suc n) k =
    and_from (is_part_of k w (part_of w k)) (are_parts_of (suc k) w (parts_from n (suc k) (part_of w))) (part_itself w k) (parts_themselves w n (suc k))

pub whole_itself_in : (w : Whole) (n : ℕ) → 0 < n → whole_in (parts_from n 0 (part_of w)) ≡ Some w
whole_itself_in w zero some = absurd (omega arith)
whole_itself_in w (suc n) some =
    let all = part_of w 0 ∷ parts_from n 1 (part_of w) in
    ap (option_and_then (λ (p : ℕ × Whole). cond (are_parts_of 0 p.1 all) (Some p.1) None)) (part_back w 0)
    ∙ cond-true (are_parts_of 0 w all) (Some w) None (parts_themselves w (suc n) 0)

pub parts_known : (w : Whole) (n k : ℕ) → list_any is_blank (parts_from n k (part_of w)) ≡ false
parts_known w zero k = refl
parts_known w (suc n) k = ap (λ t. t || list_any is_blank (parts_from n (suc k) (part_of w))) (part_known w k) ∙ parts_known w n (suc k)

-- ---- bytes that are all the same

pub all_same : (b : ℕ) (bs : List ℕ) → list_all (λ x. eqb x b) bs ≡ true → bs ≡ replicate (length bs) b
all_same b [] all = refl
all_same b (x ∷ bs) all =
    let both = and_parts (eqb x b) (list_all (λ y. eqb y b) bs) all in
    ap (λ y. y ∷ bs) (eqb-true x b both.0) ∙ ap (λ ys. b ∷ ys) (all_same b bs both.1)

pub if_some : {A : Type 0} (P : A → Type 0) (o : Option A) → ((a : A) → o ≡ Some a → P a) → IfSome o P
if_some P None f = tt
if_some P (Some a) f = f a refl

-- the parts of what is kept, as they are read
pub run_read : (kept : Kept) (bs ms xs ys : List ℕ) (at count n all : ℕ) (w : Whole) → xs ≡ bs → ys ≡ ms → n ≡ count → at + count ≤ length (cells_from kept 0 bs ms)
    → take n (drop at xs) ≡ replicate (length (take n (drop at xs))) all → take n (drop at ys) ≡ take (length (take n (drop at ys))) MARKS → length (take n (drop at xs)) ≤ all
    → count ≤ 8 → kept (span at all) ≡ Some w → take count (drop at (cells_from kept 0 bs ms)) ≡ parts_from count 0 (part_of w)
run_read kept bs ms xs ys at count n all w same_bytes same_marks same_count inside bytes marks within few is =
    let size = length-cells kept 0 bs ms in
    let left : take n (drop at xs) ≡ take count (drop at bs) = ap (λ k. take k (drop at xs)) same_count ∙ ap (λ zs. take count (drop at zs)) same_bytes in
    let right : take n (drop at ys) ≡ take count (drop at ms) = ap (λ k. take k (drop at ys)) same_count ∙ ap (λ zs. take count (drop at zs)) same_marks in
    let left_size : length (take n (drop at xs)) ≡ count = ap length left ∙ omega (arith, length-take count (drop at bs), length-drop at bs) in
    let right_size : length (take n (drop at ys)) ≡ count = ap length right ∙ omega (arith, length-take count (drop at ms), length-drop at ms) in
    cells_between kept at count bs ms
    ∙ ap (λ zs. cells_from kept at zs (take count (drop at ms))) (sym left ∙ bytes ∙ ap (λ k. replicate k all) left_size)
    ∙ ap (cells_from kept at (replicate count all)) (sym right ∙ marks ∙ ap (λ k. take k MARKS) right_size)
    ∙ run_cells kept at all w is count (omega arith) few
