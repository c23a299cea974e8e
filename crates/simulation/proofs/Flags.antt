-- Flags of sums and differences of values.
use Rattle.std.proofs.Common.{◌≡◌, ℕ, ◌+◌, ◌-◌, ◌%◌, ◌^◌, ◌<◌, ◌≤◌, inl, inr, Bool, true, false, Some, None, refl, sym, ap, ◌∙◌, arith}
use Rattle.std.specs.Prelude.{◌==◌, ◌&&◌, ◌||◌, nat_le, nat_lt, if◌then◌else◌}
use Rattle.std.proofs.lemmas.Bool.{and_parts, eqb-true, leb-true, leb-false, ltb-true, le-leb, lt-leb, ne_eqb, cases_Bool}
use Rattle.a64_inst.specs.declared.flags.Flags.{Flags}
use Rattle.a64_inst.specs.declared.operations.Sum.{Sum}
use Rattle.a64_inst.specs.declared.operations.Sum.TheVariants.{Add, Subtract}
use Rattle.a64_inst.specs.declared.operations.Width.{Width}
use Rattle.a64_inst.specs.declared.operations.Width.TheVariants.{W, X}
use Rattle.a64_inst.specs.Domain.{Answer, next}
use Rattle.a64_inst.specs.Numbers.{bits_of, same, sum_value, sum_flags}
use Rattle.num_run.specs.Machine.{Machine}
use Rattle.paged_memory.specs.Mapping.{Mapping}
use Rattle.sym_expr.specs.declared.cause.Cause.{Cause}
use Rattle.sym_expr.specs.declared.cause.Cause.TheVariants as causes
use Rattle.sym_expr.specs.declared.point.Point.{Point}
use Rattle.sym_expr.specs.declared.program.Program.{Program}
use Rattle.sym_expr.specs.declared.value.KnownFlags.{KnownFlags}
use Rattle.sym_expr.specs.declared.value.Object.{Object}
use Rattle.sym_expr.specs.declared.value.Value.{Value}
use Rattle.sym_expr.specs.declared.value.Value.TheVariants.{Num, Addr, At, Step}
use Rattle.sym_expr.specs.States.{State, flags_unknown, object_size}
use Rattle.sym_expr.specs.Symbolic.{of_numbers, known, flags_of_equal, flags_of_positive, flags_of_other, flags_of_offsets, compared, is_address, flags_outcome}
use Rattle.sym_expr.specs.Values.{same_object, same_point, number_in}
use Rattle.simulation.specs.Placement.{Placement, object_address, point_address}
use Rattle.simulation.specs.Meant.{Means}
use Rattle.simulation.specs.Held.{IsFlag, AreFlags, Related}
use Rattle.simulation.specs.Placed.{IsPlaced}
use Rattle.simulation.specs.Follows.{Follows}
use Rattle.simulation.proofs.Arithmetic.{sub_same, sub_offsets}
use Rattle.simulation.proofs.Context.{number_is, two_follow}
use Rattle.simulation.proofs.Values.{object_is, point_is, means_small}

-- flags of a machine
abbrev pub flags_answer : Flags → Answer ⊥ Machine Flags
flags_answer f = next f

pub known_are : (f : Flags) → AreFlags (known f) f
known_are f = record { n = refl; z = refl; c = refl; v = refl }

unknown_are : (f : Flags) → AreFlags flags_unknown f
unknown_are f = record { n = tt; z = tt; c = tt; v = tt }

-- ---- flags of differences of numbers

-- the top bits of a number and of the same turned round differ
tops_differ : (b c : Bool) (x : Bool) → (b ≡ true → c ≡ false) → (b ≡ false → c ≡ true) → (same b c && x) ≡ false
tops_differ true c x h k = rw (h refl) refl
tops_differ false c x h k = rw (k refl) refl

turned_top : (m : ℕ) (x : Bool) → (same (nat_le (2 ^ 63) (m % 2 ^ 64)) (nat_le (2 ^ 63) ((2 ^ 64 - 1 - m % 2 ^ 64) % 2 ^ 64)) && x) ≡ false
turned_top m x =
    tops_differ (nat_le (2 ^ 63) (m % 2 ^ 64)) (nat_le (2 ^ 63) ((2 ^ 64 - 1 - m % 2 ^ 64) % 2 ^ 64)) x
    (λ e. let h = leb-true (2 ^ 63) (m % 2 ^ 64) e in lt-leb (2 ^ 63) ((2 ^ 64 - 1 - m % 2 ^ 64) % 2 ^ 64) (omega (arith, h)))
    (λ e. let h = leb-false (2 ^ 63) (m % 2 ^ 64) e in le-leb (2 ^ 63) ((2 ^ 64 - 1 - m % 2 ^ 64) % 2 ^ 64) (omega (arith, h)))

-- the first of two numbers has no top bit, and neither has the second
low_tops : (m n : ℕ) (x : Bool) → m < 2 ^ 63 → n < 2 ^ 63 → (same (nat_le (2 ^ 63) (m % 2 ^ 64)) (nat_le (2 ^ 63) ((2 ^ 64 - 1 - n % 2 ^ 64) % 2 ^ 64)) && x) ≡ false
low_tops m n x h k =
    tops_differ (nat_le (2 ^ 63) (m % 2 ^ 64)) (nat_le (2 ^ 63) ((2 ^ 64 - 1 - n % 2 ^ 64) % 2 ^ 64)) x
    (λ e. let a = leb-true (2 ^ 63) (m % 2 ^ 64) e in absurd (omega (arith, a, h)))
    (λ e. le-leb (2 ^ 63) ((2 ^ 64 - 1 - n % 2 ^ 64) % 2 ^ 64) (omega (arith, k)))

equal_flags : (m : ℕ) → AreFlags flags_of_equal (sum_flags Subtract 64 m m)
equal_flags m = record {
  n = ap (λ (x : ℕ). nat_le (2 ^ 63) x) (sub_same m);
  z = ap (λ (x : ℕ). x == 0) (sub_same m);
  c = le-leb (2 ^ 64) (m % 2 ^ 64 + (2 ^ 64 - 1 - m % 2 ^ 64) % 2 ^ 64 + 1) (omega arith);
  v = turned_top m _;
}

less_none : (m : ℕ) → m < 2 ^ 63 → sum_value Subtract 64 m 0 ≡ m
less_none m h = omega arith

positive_flags : (m : ℕ) → 0 < m → m < 2 ^ 63 → AreFlags flags_of_positive (sum_flags Subtract 64 m 0)
positive_flags m some h = record {
  n = ap (λ (x : ℕ). nat_le (2 ^ 63) x) (less_none m h) ∙ lt-leb (2 ^ 63) m h;
  z = ap (λ (x : ℕ). x == 0) (less_none m h) ∙ ne_eqb m 0 (λ e. omega (arith, e, some));
  c = le-leb (2 ^ 64) (m % 2 ^ 64 + (2 ^ 64 - 1 - 0 % 2 ^ 64) % 2 ^ 64 + 1) (omega (arith, some));
  v = low_tops m 0 _ h (omega arith);
}

apart_flags : (m n : ℕ) → m < 2 ^ 64 → n < 2 ^ 64 → (m ≡ n → ⊥) → AreFlags flags_of_other (sum_flags Subtract 64 m n)
apart_flags m n h k other = record { n = tt; z = ne_eqb (sum_value Subtract 64 m n) 0 (λ e. other (omega (arith, e, h, k))); c = tt; v = tt }

flag_if : (b k f : Bool) → (b ≡ true → f ≡ k) → IsFlag (if b then Some k else None) f
flag_if true k f h = h refl
flag_if false k f h = tt

-- two offsets in an object that lies below 2 ^ 47
no_borrow : (a x y : ℕ) → x < 2 ^ 64 → y < 2 ^ 64 → a + x ≤ 2 ^ 47 → a + y ≤ 2 ^ 47
    → nat_le (2 ^ 64) ((a + x) % 2 ^ 64 % 2 ^ 64 + (2 ^ 64 - 1 - (a + y) % 2 ^ 64 % 2 ^ 64) % 2 ^ 64 + 1) ≡ nat_le y x
no_borrow a x y h k p q =
    elim (cases_Bool (nat_le y x)) [
      | inl e ↦ let d = leb-true y x e in le-leb (2 ^ 64) _ (omega (arith, d, p, q)) ∙ sym e
      | inr e ↦ let d = leb-false y x e in lt-leb (2 ^ 64) _ (omega (arith, d, p, q)) ∙ sym e
    ]

offset_flags : (a size x y : ℕ) → x < 2 ^ 64 → y < 2 ^ 64 → a + size ≤ 2 ^ 47 → AreFlags (flags_of_offsets size x y) (sum_flags Subtract 64 ((a + x) % 2 ^ 64) ((a + y) % 2 ^ 64))
offset_flags a size x y h k room = record {
  n = ap (λ (d : ℕ). nat_le (2 ^ 63) d) (sub_offsets a x y h k);
  z = ap (λ (d : ℕ). d == 0) (sub_offsets a x y h k);
  c = flag_if (nat_le x size && nat_le y size) (nat_le y x) _ (λ e.
      let both = and_parts (nat_le x size) (nat_le y size) e in
      let first = leb-true x size both.0 in
      let second = leb-true y size both.1 in
      no_borrow a x y h k (omega (arith, first, room)) (omega (arith, second, room)));
  v = flag_if (nat_le x size && nat_le y size) false _ (λ e.
      let both = and_parts (nat_le x size) (nat_le y size) e in
      let first = leb-true x size both.0 in
      let second = leb-true y size both.1 in
      low_tops ((a + x) % 2 ^ 64) ((a + y) % 2 ^ 64) _ (omega (arith, first, room)) (omega (arith, second, room)));
}

module _ (pl : Placement) (g : Program) (memory : Mapping) (placed : IsPlaced pl g memory) where
  -- what is known of the flags holds of them
  abbrev pub GivesFlags : Answer Cause State KnownFlags → Flags → Type 0
  GivesFlags o f = Follows AreFlags (Related pl g) o (flags_answer f)

  numbers_flags : (sum : Sum) (w : Width) (a b : Value) (m n : ℕ) → Means pl g a m → Means pl g b n
      → GivesFlags (of_numbers (λ x y. known (sum_flags sum (bits_of w) x y)) a b) (sum_flags sum (bits_of w) m n)
  numbers_flags sum w a b m n h k =
      two_follow AreFlags (Related pl g) (number_in a) (number_in b) m n causes.Value (λ x y. known (sum_flags sum (bits_of w) x y)) (flags_answer (sum_flags sum (bits_of w) m n))
      (number_is pl g a m h) (number_is pl g b n k) (λ s t. known_are (sum_flags sum (bits_of w) m n))

  -- ---- two addresses

  flags_either : (b : Bool) (f : KnownFlags) (o : Answer Cause State KnownFlags) (flags : Flags) → (b ≡ true → AreFlags f flags) → (b ≡ false → GivesFlags o flags)
      → GivesFlags (if b then next f else o) flags
  flags_either true f o flags h k = h refl
  flags_either false f o flags h k = k refl

  or_flags : (b : Bool) (f other : KnownFlags) (flags : Flags) → (b ≡ true → AreFlags f flags) → AreFlags other flags → GivesFlags (next (if b then f else other)) flags
  or_flags true f other flags h k = h refl
  or_flags false f other flags h k = k

  -- an address that lies in its object
  pub inside : (s : State) (m : Machine) (o : Object) (x n : ℕ) → Related pl g s m → Means pl g (Addr o x) n → x ≤ object_size s o
      → (n ≡ object_address pl o + x) × (4096 ≤ n) × (n ≤ 2 ^ 47)
  inside s m o x n h v e =
      let is = placed.inside o v.valid.0 in
      let low = is.low in
      let high = is.high in
      let size = h.sizes o in
      let number = v.number in
      (omega (arith, low, high, size, number, e), omega (arith, low, high, size, number, e), omega (arith, low, high, size, number, e))

  other_object : (s : State) (m : Machine) (o other : Object) (x y i k : ℕ) → Related pl g s m → Means pl g (Addr o x) i → Means pl g (Addr other y) k → same_object o other ≡ false
      → x < object_size s o → y < object_size s other → i ≡ k → ⊥
  other_object s m o other x y i k h v w e first second is =
      let one = (inside s m o x i h v (omega (arith, first))).0 in
      let two = (inside s m other y k h w (omega (arith, second))).0 in
      let size = h.sizes o in
      let size2 = h.sizes other in
      elim (placed.apart o other v.valid.0 w.valid.0 e (omega (arith, first, size)) (omega (arith, second, size2))) [
        | inl before ↦ omega (arith, before, one, two, size, size2, first, second, is)
        | inr behind ↦ omega (arith, behind, one, two, size, size2, first, second, is)
      ]

  addresses_compared : (s : State) (m : Machine) (o other : Object) (x y i k : ℕ) → Related pl g s m → Means pl g (Addr o x) i → Means pl g (Addr other y) k
      → GivesFlags (compared s (Addr o x) (Addr other y)) (sum_flags Subtract 64 i k)
  addresses_compared s m o other x y i k h v w =
      flags_either (same_object o other) (flags_of_offsets (object_size s o) x y) _ (sum_flags Subtract 64 i k)
      (λ e.
      let room = (placed.inside o v.valid.0).high in
      let size = h.sizes o in
      rw (v.number, w.number, ← object_is o other e) (offset_flags (object_address pl o) (object_size s o) x y v.valid.1 w.valid.1 (omega (arith, room, size))))
      (λ e. flags_either (nat_lt x (object_size s o) && nat_lt y (object_size s other)) flags_of_other _ (sum_flags Subtract 64 i k)
      (λ t.
      let both = and_parts (nat_lt x (object_size s o)) (nat_lt y (object_size s other)) t in
      apart_flags i k (means_small pl g memory placed (Addr o x) i v) (means_small pl g memory placed (Addr other y) k w)
      (other_object s m o other x y i k h v w e (ltb-true x (object_size s o) both.0) (ltb-true y (object_size s other) both.1)))
      (λ t. tt))

  points_compared : (s : State) (p q : Point) (m n : ℕ) → Means pl g (At p) m → Means pl g (At q) n → GivesFlags (compared s (At p) (At q)) (sum_flags Subtract 64 m n)
  points_compared s p q m n h k =
      flags_either (same_point p q) flags_of_equal _ (sum_flags Subtract 64 m n)
      (λ e. rw (h.number, k.number, ← point_is p q e) (equal_flags (point_address pl g p))) (λ e. tt)

  point_and_number : (p : Point) (j m n : ℕ) → Means pl g (At p) m → n ≡ j → GivesFlags (next (if j == 0 then flags_of_positive else flags_unknown)) (sum_flags Subtract 64 m n)
  point_and_number p j m n h e =
      let low = (placed.points p h.valid).low in
      let high = (placed.points p h.valid).high in
      let number = h.number in
      or_flags (j == 0) flags_of_positive flags_unknown (sum_flags Subtract 64 m n)
      (λ t. rw (e, eqb-true j 0 t) (positive_flags m (omega (arith, low, number)) (omega (arith, high, number)))) (unknown_are _)

  address_and_number : (s : State) (u : Machine) (o : Object) (x j m n : ℕ) → Related pl g s u → Means pl g (Addr o x) m → n ≡ j
      → GivesFlags (next (if (j == 0) && nat_le x (object_size s o) then flags_of_positive else flags_unknown)) (sum_flags Subtract 64 m n)
  address_and_number s u o x j m n h v e =
      or_flags ((j == 0) && nat_le x (object_size s o)) flags_of_positive flags_unknown (sum_flags Subtract 64 m n)
      (λ t.
      let both = and_parts (j == 0) (nat_le x (object_size s o)) t in
      let at = inside s u o x m h v (leb-true x (object_size s o) both.1) in
      let low = at.1 in
      let high = at.2 in
      rw (e, eqb-true j 0 both.0) (positive_flags m (omega (arith, low)) (omega (arith, high)))) (unknown_are _)

  compared_flags : (s : State) (u : Machine) (a b : Value) (m n : ℕ) → Related pl g s u → Means pl g a m → Means pl g b n → GivesFlags (compared s a b) (sum_flags Subtract 64 m n)
  compared_flags s u (Addr o x) (Addr other y) m n h v w = addresses_compared s u o other x y m n h v w
  compared_flags s u (At p) (At q) m n h v w = points_compared s p q m n v w
  compared_flags s u (At p) (Num k) m n h v w = point_and_number p k m n v w.number
  compared_flags s u (At p) (Step q r k) m n h v w = point_and_number p k m n v w.number
  compared_flags s u (Addr o x) (Num k) m n h v w = address_and_number s u o x k m n h v w.number
  compared_flags s u (Addr o x) (Step q r k) m n h v w = address_and_number s u o x k m n h v w.number
  compared_flags s u a b m n h v w = numbers_flags Subtract X a b m n v w

  pub sum_flags_agree : (s : State) (u : Machine) (sum : Sum) (w : Width) (a b : Value) (m n : ℕ) → Related pl g s u → Means pl g a m → Means pl g b n
      → GivesFlags (flags_outcome s sum w a b) (sum_flags sum (bits_of w) m n)
  sum_flags_agree s u sum W a b m n h v k = numbers_flags sum W a b m n v k
  sum_flags_agree s u Subtract X a b m n h v k = compared_flags s u a b m n h v k
  sum_flags_agree s u Add X a b m n h v k =
      flags_either (is_address a || is_address b) flags_unknown _ (sum_flags Add 64 m n) (λ e. unknown_are _) (λ e. numbers_flags Add X a b m n v k)
