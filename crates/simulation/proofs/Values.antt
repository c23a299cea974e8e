-- Values that are the same, and the numbers of targets and values.
use Rattle.std.proofs.Common.{◌≡◌, ℕ, ◌+◌, ◌*◌, ◌/◌, ◌%◌, ◌^◌, ◌<◌, true, List, Some, refl, sym, ap, subst, arith}
use Rattle.std.specs.Prelude.{◌==◌, ◌&&◌}
use Rattle.std.specs.Str.{bytes_eq}
use Rattle.std.proofs.lemmas.Bool.{and_parts, eqb-true, false≢true}
use Rattle.std.proofs.lemmas.Slice.Eq.{bytes_eq-Decides}
use Rattle.sym_expr.specs.declared.point.Point.{Point}
use Rattle.sym_expr.specs.declared.program.Program.{Program}
use Rattle.sym_expr.specs.declared.target.Target.{Target}
use Rattle.sym_expr.specs.declared.target.Target.TheVariants.{Number, Address, Code, Undefined}
use Rattle.sym_expr.specs.declared.value.Object.{Object}
use Rattle.sym_expr.specs.declared.value.Object.TheVariants.{Block, Stack}
use Rattle.sym_expr.specs.declared.value.Value.{Value}
use Rattle.sym_expr.specs.declared.value.Value.TheVariants.{Num, Addr, At, PageOf, Diff, Step}
use Rattle.sym_expr.specs.Targets.{point}
use Rattle.sym_expr.specs.Values.{same_object, same_point, same_target, same_value, value_of, page_value}
use Rattle.a64_inst.specs.Fitting.{page_of}
use Rattle.paged_memory.specs.Mapping.{Mapping}
use Rattle.simulation.specs.Placement.{Placement, object_address, target_number, value_number}
use Rattle.simulation.specs.Meant.{IsTarget, IsValue, Means}
use Rattle.simulation.specs.Placed.{IsPlaced}
use Rattle.simulation.proofs.Arithmetic.{less_small, page_small}

-- ---- the same

pub object_is : (a b : Object) → same_object a b ≡ true → a ≡ b
object_is (Block a) (Block b) e = ap Block ((bytes_eq-Decides a b).0 e)
object_is (Block a) Stack e = absurd (false≢true e)
object_is Stack (Block b) e = absurd (false≢true e)
object_is Stack Stack e = refl

same_fields : (a b : List ℕ) (x y i k : ℕ) → a ≡ b → x ≡ y → i ≡ k → point a x i ≡ point b y k
same_fields a b x y i k e f h = rw (e, f, h) refl

pub point_is : (p q : Point) → same_point p q ≡ true → p ≡ q
point_is p q e =
    let first = and_parts (bytes_eq p.block q.block) ((p.offset == q.offset) && (p.j == q.j)) e in
    let second = and_parts (p.offset == q.offset) (p.j == q.j) first.1 in
    same_fields p.block q.block p.offset q.offset p.j q.j ((bytes_eq-Decides p.block q.block).0 first.0) (eqb-true p.offset q.offset second.0) (eqb-true p.j q.j second.1)

pub target_is : (a b : Target) → same_target a b ≡ true → a ≡ b
target_is (Number m) (Number n) e = ap Number (eqb-true m n e)
target_is (Address a x) (Address b y) e =
    let both = and_parts (bytes_eq a b) (x == y) e in
    rw ((bytes_eq-Decides a b).0 both.0, eqb-true x y both.1) refl
target_is (Code p) (Code q) e = ap Code (point_is p q e)
target_is (Undefined a) (Undefined b) e = ap Undefined ((bytes_eq-Decides a b).0 e)
target_is a b e = absurd (false≢true e)

pub value_is : (a b : Value) → same_value a b ≡ true → a ≡ b
value_is (Num m) (Num n) e = ap Num (eqb-true m n e)
value_is (Addr a x) (Addr b y) e =
    let both = and_parts (same_object a b) (x == y) e in
    rw (object_is a b both.0, eqb-true x y both.1) refl
value_is (At p) (At q) e = ap At (point_is p q e)
value_is (PageOf a) (PageOf b) e = ap PageOf (target_is a b e)
value_is (Diff a b) (Diff c d) e =
    let both = and_parts (same_target a c) (same_target b d) e in
    rw (target_is a c both.0, target_is b d both.1) refl
value_is (Step a b m) (Step c d n) e =
    let first = and_parts (same_point a c) (same_point b d && (m == n)) e in
    let second = and_parts (same_point b d) (m == n) first.1 in
    rw (point_is a c first.0, point_is b d second.0, eqb-true m n second.1) refl
value_is a b e = absurd (false≢true e)

-- ---- the numbers

pub sum_small : (a x : ℕ) → (a + x) % 2 ^ 64 < 2 ^ 64
sum_small a x = omega arith

module _ (pl : Placement) (g : Program) (memory : Mapping) (placed : IsPlaced pl g memory) where
  pub target_small : (t : Target) → IsTarget g t → target_number pl g t < 2 ^ 64
  target_small (Number n) h = h
  target_small (Address block x) h = sum_small (pl.block block) x
  target_small (Code p) h = let a = (placed.points p h).high in omega (arith, a)
  target_small (Undefined symbol) h = absurd h

  pub value_small : (v : Value) → IsValue pl g v → value_number pl g v < 2 ^ 64
  value_small (Num n) h = h
  value_small (Addr o x) h = sum_small (object_address pl o) x
  value_small (At p) h = let a = (placed.points p h).high in omega (arith, a)
  value_small (PageOf t) h = page_small (target_number pl g t) (target_small t h)
  value_small (Diff p q) h = less_small (target_number pl g p) (target_number pl g q)
  value_small (Step p q n) h = h.3

  pub means_small : (v : Value) (n : ℕ) → Means pl g v n → n < 2 ^ 64
  means_small v n h = subst (λ (x : ℕ). x < 2 ^ 64) (sym h.number) (value_small v h.valid)

  -- the value of a target
  pub target_value : (t : Target) → IsTarget g t → (v : Value) × (value_of t ≡ Some v) × Means pl g v (target_number pl g t)
  target_value (Number n) h = (Num n, refl, record { valid = h; number = refl })
  target_value (Address block x) h = (Addr (Block block) x, refl, record { valid = h; number = refl })
  target_value (Code p) h = (At p, refl, record { valid = h; number = refl })
  target_value (Undefined symbol) h = absurd h

  -- its page
  pub target_page : (t : Target) → IsTarget g t → (v : Value) × (page_value t ≡ Some v) × Means pl g v (page_of (target_number pl g t))
  target_page (Number n) h = (Num (n / 4096 * 4096), refl, record { valid = page_small n h; number = refl })
  target_page (Address block x) h = (PageOf (Address block x), refl, record { valid = h; number = refl })
  target_page (Code p) h = (PageOf (Code p), refl, record { valid = h; number = refl })
  target_page (Undefined symbol) h = absurd h
