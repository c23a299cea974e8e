-- Sums and differences of values.
use Rattle.std.proofs.Common.{◌≡◌, ℕ, ◌+◌, ◌%◌, ◌^◌, ◌<◌, Bool, true, false, refl, sym, ap, ◌∙◌, subst, arith}
use Rattle.std.specs.Prelude.{◌==◌, ◌&&◌, if◌then◌else◌}
use Rattle.std.specs.Option.{option_map_or}
use Rattle.std.proofs.lemmas.Bool.{and_parts, eqb-true, false≢true}
use Rattle.a64_inst.specs.declared.operations.Sum.{Sum}
use Rattle.a64_inst.specs.declared.operations.Sum.TheVariants.{Add, Subtract}
use Rattle.a64_inst.specs.declared.operations.Width.{Width}
use Rattle.a64_inst.specs.declared.operations.Width.TheVariants.{W, X}
use Rattle.a64_inst.specs.Domain.{Answer, next, stuck}
use Rattle.a64_inst.specs.Numbers.{bits_of, sum_value}
use Rattle.num_run.specs.Machine.{Machine}
use Rattle.paged_memory.specs.Mapping.{Mapping}
use Rattle.sym_expr.specs.declared.cause.Cause.TheVariants as causes
use Rattle.sym_expr.specs.declared.point.Point.{Point}
use Rattle.sym_expr.specs.declared.program.Program.{Program}
use Rattle.sym_expr.specs.declared.target.Target.{Target}
use Rattle.sym_expr.specs.declared.value.Object.{Object}
use Rattle.sym_expr.specs.declared.value.Value.{Value}
use Rattle.sym_expr.specs.declared.value.Value.TheVariants.{Num, Addr, At, PageOf, Diff, Step}
use Rattle.sym_expr.specs.States.{less}
use Rattle.sym_expr.specs.Symbolic.{or_stuck, of_numbers, is_zero, moved, across, plus_step, stepped, added, sum_of, difference_of, sum_outcome, dist, wrapped}
use Rattle.sym_expr.specs.Values.{same_object, same_point, same_value, number_in, value_of}
use Rattle.simulation.specs.Placement.{Placement, object_address, point_address, target_number, value_number}
use Rattle.simulation.specs.Meant.{IsTarget, IsValue, Means}
use Rattle.simulation.specs.Placed.{IsPlaced}
use Rattle.simulation.proofs.Arithmetic.{add_none, none_add, add_moved, moved_add, add_less, less_add, sub_moved, sub_offsets, sub_same, wrapped_less, less_small}
use Rattle.simulation.proofs.Context.{Gives, IsTemp, plain, counted, number_is, two_follow}
use Rattle.simulation.proofs.Values.{object_is, point_is, value_is, target_small, means_small, target_value, sum_small}

-- a number of a machine
abbrev pub answer : ℕ → Answer ⊥ Machine ℕ
answer n = next n

low_small : (a : ℕ) → a % 2 ^ 32 < 2 ^ 64
low_small a = omega arith

high_small : (a : ℕ) → a % 2 ^ 64 < 2 ^ 64
high_small a = omega arith

module _ (pl : Placement) (g : Program) (memory : Mapping) (placed : IsPlaced pl g memory) where
  -- a value by its number
  gives_as : (v : Value) (k n : ℕ) → Means pl g v k → k ≡ n → IsTemp pl g false v n
  gives_as v k n h e = plain pl g v n (subst (λ (x : ℕ). Means pl g v x) e h)

  pub zero_is : (v : Value) (n : ℕ) → Means pl g v n → is_zero v ≡ true → n ≡ 0
  zero_is (Num k) n h e = h.number ∙ eqb-true k 0 e
  zero_is (Addr o x) n h e = absurd (false≢true e)
  zero_is (At p) n h e = absurd (false≢true e)
  zero_is (PageOf t) n h e = absurd (false≢true e)
  zero_is (Diff p q) n h e = absurd (false≢true e)
  zero_is (Step p q k) n h e = absurd (false≢true e)

  pub numbers_sum : (sum : Sum) (a b : Value) (m n : ℕ) → Means pl g a m → Means pl g b n → Gives pl g false (of_numbers (λ x y. Num (sum_value sum 64 x y)) a b) (answer (sum_value sum 64 m n))
  numbers_sum sum a b m n h k =
      two_follow (IsTemp pl g false) _ (number_in a) (number_in b) m n causes.Value (λ x y. Num (sum_value sum 64 x y)) (answer (sum_value sum 64 m n))
      (number_is pl g a m h) (number_is pl g b n k) (λ s t. counted pl g false (sum_value sum 64 m n) (high_small _))

  pub narrow_sum : (sum : Sum) (a b : Value) (m n : ℕ) → Means pl g a m → Means pl g b n → Gives pl g false (of_numbers (λ x y. Num (sum_value sum 32 x y)) a b) (answer (sum_value sum 32 m n))
  narrow_sum sum a b m n h k =
      two_follow (IsTemp pl g false) _ (number_in a) (number_in b) m n causes.Value (λ x y. Num (sum_value sum 32 x y)) (answer (sum_value sum 32 m n))
      (number_is pl g a m h) (number_is pl g b n k) (λ s t. counted pl g false (sum_value sum 32 m n) (low_small _))

  -- ---- one case each

  moved_first : (o : Object) (x k m n : ℕ) → Means pl g (Addr o x) m → n ≡ k → Gives pl g false (next (moved o x k)) (answer (sum_value Add 64 m n))
  moved_first o x k m n h e =
      gives_as (moved o x k) ((object_address pl o + (x + k) % 2 ^ 64) % 2 ^ 64) (sum_value Add 64 m n) (record { valid = (h.valid.0, sum_small x k); number = refl })
      (sym (add_moved (object_address pl o) x k) ∙ rw (h.number, e) refl)

  moved_second : (o : Object) (x k m n : ℕ) → n ≡ k → Means pl g (Addr o x) m → Gives pl g false (next (moved o x k)) (answer (sum_value Add 64 n m))
  moved_second o x k m n e h =
      gives_as (moved o x k) ((object_address pl o + (x + k) % 2 ^ 64) % 2 ^ 64) (sum_value Add 64 n m) (record { valid = (h.valid.0, sum_small x k); number = refl })
      (sym (moved_add (object_address pl o) x k) ∙ rw (h.number, e) refl)

  -- the value of the first target of a difference
  first_gives : (p : Target) (n : ℕ) → IsTarget g p → n ≡ target_number pl g p → Gives pl g false (or_stuck causes.Value (value_of p)) (answer n)
  first_gives p n h e =
      let found = target_value pl g memory placed p h in
      rw (found.1) (gives_as found.0 (target_number pl g p) n found.2 (sym e))

  same_number : (q : Target) (v : Value) (n : ℕ) → IsTarget g q → Means pl g v n → option_map_or (same_value v) (value_of q) false ≡ true → n ≡ target_number pl g q
  same_number q v n h k e =
      let found = target_value pl g memory placed q h in
      let same : same_value v found.0 ≡ true = sym (ap (λ o. option_map_or (same_value v) o false) found.1) ∙ e in
      k.number ∙ ap (value_number pl g) (value_is v found.0 same) ∙ sym found.2.number

  across_either : (b : Bool) (p q : Target) (v : Value) (k n : ℕ) → IsTarget g p → (b ≡ true → n ≡ target_number pl g p)
      → Gives pl g false (if b then or_stuck causes.Value (value_of p) else stuck causes.Value) (answer n)
  across_either true p q v k n h e = first_gives p n h (e refl)
  across_either false p q v k n h e = tt

  across_first : (p q : Target) (v : Value) (m n : ℕ) → Means pl g (Diff p q) m → Means pl g v n → Gives pl g false (across p q v) (answer (sum_value Add 64 m n))
  across_first p q v m n h k =
      across_either (option_map_or (same_value v) (value_of q) false) p q v m (sum_value Add 64 m n) h.valid.0
      (λ e. rw (h.number, same_number q v n h.valid.1 k e) (add_less (target_number pl g p) (target_number pl g q) (target_small pl g memory placed p h.valid.0) (target_small pl g memory placed q h.valid.1)))

  across_second : (p q : Target) (v : Value) (m n : ℕ) → Means pl g v n → Means pl g (Diff p q) m → Gives pl g false (across p q v) (answer (sum_value Add 64 n m))
  across_second p q v m n k h =
      across_either (option_map_or (same_value v) (value_of q) false) p q v m (sum_value Add 64 n m) h.valid.0
      (λ e. rw (h.number, same_number q v n h.valid.1 k e) (less_add (target_number pl g p) (target_number pl g q) (target_small pl g memory placed p h.valid.0) (target_small pl g memory placed q h.valid.1)))

  -- a step that is 0
  none_either : (b : Bool) (v : Value) (k m : ℕ) → Means pl g v m → (b ≡ true → k ≡ m) → Gives pl g false (if b then next v else stuck causes.Value) (answer k)
  none_either true v k m h e = gives_as v m k h (sym (e refl))
  none_either false v k m h e = tt

  none_first : (v : Value) (k m n : ℕ) → Means pl g v m → n ≡ k → Gives pl g false (plus_step v k) (answer (sum_value Add 64 m n))
  none_first v k m n h e =
      none_either (k == 0) v (sum_value Add 64 m n) m h (λ z. rw (e, eqb-true k 0 z) (add_none m (means_small pl g memory placed v m h)))

  none_second : (v : Value) (k m n : ℕ) → n ≡ k → Means pl g v m → Gives pl g false (plus_step v k) (answer (sum_value Add 64 n m))
  none_second v k m n e h =
      none_either (k == 0) v (sum_value Add 64 n m) m h (λ z. rw (e, eqb-true k 0 z) (none_add m (means_small pl g memory placed v m h)))

  -- a step to its first point
  stepped_either : (b : Bool) (p at : Point) (k n : ℕ) → IsValue pl g (At p) → (b ≡ true → n ≡ point_address pl g p) → Gives pl g false (plus_step (At at) k) (answer n)
      → Gives pl g false (if b then next (At p) else plus_step (At at) k) (answer n)
  stepped_either true p at k n h e other = gives_as (At p) (point_address pl g p) n (record { valid = h; number = refl }) (sym (e refl))
  stepped_either false p at k n h e other = other

  -- the number of the step is the distance
  step_number : (p q at : Point) (k : ℕ) → IsValue pl g (Step p q k) → (same_point at q && (k == wrapped 64 (dist g p q))) ≡ true
      → (at ≡ q) × (k ≡ less (point_address pl g p) (point_address pl g q))
  step_number p q at k h e =
      let both = and_parts (same_point at q) (k == wrapped 64 (dist g p q)) e in
      let low = (placed.points p h.0).high in
      let high = (placed.points q h.1).high in
      (point_is at q both.0, eqb-true k (wrapped 64 (dist g p q)) both.1 ∙ wrapped_less (point_address pl g p) (point_address pl g q) (dist g p q) (omega (arith, low)) (omega (arith, high)) h.2)

  step_sum : (p q at : Point) (k : ℕ) → IsValue pl g (Step p q k) → (same_point at q && (k == wrapped 64 (dist g p q))) ≡ true
      → (sum_value Add 64 (point_address pl g at) k ≡ point_address pl g p) × (sum_value Add 64 k (point_address pl g at) ≡ point_address pl g p)
  step_sum p q at k h e =
      let is = step_number p q at k h e in
      let low : point_address pl g p < 2 ^ 64 = let a = (placed.points p h.0).high in omega (arith, a) in
      let high : point_address pl g q < 2 ^ 64 = let a = (placed.points q h.1).high in omega (arith, a) in
      (rw (is.0, is.1) (less_add (point_address pl g p) (point_address pl g q) low high), rw (is.0, is.1) (add_less (point_address pl g p) (point_address pl g q) low high))

  stepped_first : (p q at : Point) (k m n : ℕ) → Means pl g (At at) m → Means pl g (Step p q k) n → Gives pl g false (stepped g p q k at) (answer (sum_value Add 64 m n))
  stepped_first p q at k m n h e =
      stepped_either (same_point at q && (k == wrapped 64 (dist g p q))) p at k (sum_value Add 64 m n) e.valid.0
      (λ t. rw (h.number, e.number) (step_sum p q at k e.valid t).0) (none_first (At at) k m n h e.number)

  stepped_second : (p q at : Point) (k m n : ℕ) → Means pl g (Step p q k) n → Means pl g (At at) m → Gives pl g false (stepped g p q k at) (answer (sum_value Add 64 n m))
  stepped_second p q at k m n e h =
      stepped_either (same_point at q && (k == wrapped 64 (dist g p q))) p at k (sum_value Add 64 n m) e.valid.0
      (λ t. rw (h.number, e.number) (step_sum p q at k e.valid t).1) (none_second (At at) k m n e.number h)

  -- ---- all cases of a sum

  added_gives : (a b : Value) (m n : ℕ) → Means pl g a m → Means pl g b n → Gives pl g false (added g a b) (answer (sum_value Add 64 m n))
  added_gives (Addr o x) (Num k) m n h e = moved_first o x k m n h e.number
  added_gives (Num k) (Addr o x) m n h e = moved_second o x k n m h.number e
  added_gives (Addr o x) (Step p q k) m n h e = moved_first o x k m n h e.number
  added_gives (Step p q k) (Addr o x) m n h e = moved_second o x k n m h.number e
  added_gives (Addr o x) (Diff p q) m n h e = across_second p q (Addr o x) n m h e
  added_gives (Diff p q) (Addr o x) m n h e = across_first p q (Addr o x) m n h e
  added_gives (At at) (Diff p q) m n h e = across_second p q (At at) n m h e
  added_gives (Diff p q) (At at) m n h e = across_first p q (At at) m n h e
  added_gives (At at) (Step p q k) m n h e = stepped_first p q at k m n h e
  added_gives (Step p q k) (At at) m n h e = stepped_second p q at k n m h e
  added_gives (PageOf t) (Step p q k) m n h e = none_first (PageOf t) k m n h e.number
  added_gives (Step p q k) (PageOf t) m n h e = none_second (PageOf t) k n m h.number e
  added_gives (Diff a b) (Step p q k) m n h e = none_first (Diff a b) k m n h e.number
  added_gives (Step p q k) (Diff a b) m n h e = none_second (Diff a b) k n m h.number e
  added_gives a b m n h e = numbers_sum Add a b m n h e

  -- any value plus 0
  sum_either : (y z : Bool) (a b : Value) (m n : ℕ) → Means pl g a m → Means pl g b n → (z ≡ true → n ≡ 0) → (y ≡ true → m ≡ 0)
      → Gives pl g false (if z then next a else if y then next b else added g a b) (answer (sum_value Add 64 m n))
  sum_either y true a b m n h e f k = gives_as a m (sum_value Add 64 m n) h (sym (rw (f refl) (add_none m (means_small pl g memory placed a m h))))
  sum_either true false a b m n h e f k = gives_as b n (sum_value Add 64 m n) e (sym (rw (k refl) (none_add n (means_small pl g memory placed b n e))))
  sum_either false false a b m n h e f k = added_gives a b m n h e

  pub sum_gives : (a b : Value) (m n : ℕ) → Means pl g a m → Means pl g b n → Gives pl g false (sum_of g a b) (answer (sum_value Add 64 m n))
  sum_gives a b m n h e = sum_either (is_zero a) (is_zero b) a b m n h e (zero_is b n e) (zero_is a m h)

  -- ---- all cases of a difference

  less_first : (o : Object) (x k m n : ℕ) → Means pl g (Addr o x) m → n ≡ k → Gives pl g false (next (Addr o (less x (k % 2 ^ 64)))) (answer (sum_value Subtract 64 m n))
  less_first o x k m n h e =
      gives_as (Addr o (less x (k % 2 ^ 64))) ((object_address pl o + less x (k % 2 ^ 64)) % 2 ^ 64) (sum_value Subtract 64 m n) (record { valid = (h.valid.0, less_small x (k % 2 ^ 64)); number = refl })
      (sym (sub_moved (object_address pl o) x k) ∙ rw (h.number, e) refl)

  number_either : (b : Bool) (k n : ℕ) → k < 2 ^ 64 → (b ≡ true → n ≡ k) → Gives pl g false (if b then next (Num k) else stuck causes.Value) (answer n)
  number_either true k n h e = gives_as (Num k) k n (record { valid = h; number = refl }) (sym (e refl))
  number_either false k n h e = tt

  offsets_give : (o other : Object) (x y m n : ℕ) → Means pl g (Addr o x) m → Means pl g (Addr other y) n
      → Gives pl g false (if same_object o other then next (Num (less x y)) else stuck causes.Value) (answer (sum_value Subtract 64 m n))
  offsets_give o other x y m n h e =
      number_either (same_object o other) (less x y) (sum_value Subtract 64 m n) (less_small x y)
      (λ t. rw (h.number, e.number, ← object_is o other t) (sub_offsets (object_address pl o) x y h.valid.1 e.valid.1))

  points_give : (p q : Point) (m n : ℕ) → Means pl g (At p) m → Means pl g (At q) n
      → Gives pl g false (if same_point p q then next (Num 0) else stuck causes.Value) (answer (sum_value Subtract 64 m n))
  points_give p q m n h e =
      number_either (same_point p q) 0 (sum_value Subtract 64 m n) (omega arith) (λ t. rw (h.number, e.number, ← point_is p q t) (sub_same (point_address pl g p)))

  pub difference_gives : (a b : Value) (m n : ℕ) → Means pl g a m → Means pl g b n → Gives pl g false (difference_of a b) (answer (sum_value Subtract 64 m n))
  difference_gives (Addr o x) (Num k) m n h e = less_first o x k m n h e.number
  difference_gives (Addr o x) (Step p q k) m n h e = less_first o x k m n h e.number
  difference_gives (Addr o x) (Addr other y) m n h e = offsets_give o other x y m n h e
  difference_gives (At p) (At q) m n h e = points_give p q m n h e
  difference_gives a b m n h e = numbers_sum Subtract a b m n h e

  -- a sum or a difference of either width
  pub sums_agree : (sum : Sum) (w : Width) (a b : Value) (m n : ℕ) → Means pl g a m → Means pl g b n → Gives pl g false (sum_outcome g sum w a b) (answer (sum_value sum (bits_of w) m n))
  sums_agree sum W a b m n h e = narrow_sum sum a b m n h e
  sums_agree Add X a b m n h e = sum_gives a b m n h e
  sums_agree Subtract X a b m n h e = difference_gives a b m n h e
