-- Conditions, tests against zero, and choices.
use Rattle.std.proofs.Common.{◌≡◌, ℕ, ◌+◌, ◌/◌, ◌%◌, ◌^◌, ◌<◌, Bool, true, false, Option, Some, None, refl, sym, ap, subst, arith}
use Rattle.std.specs.Prelude.{◌==◌, ◌&&◌, not, nat_le, if◌then◌else◌}
use Rattle.std.proofs.lemmas.Bool.{and_parts, leb-true, ne_eqb, false≢true}
use Rattle.a64_inst.specs.declared.flags.Flags.{Flags}
use Rattle.a64_inst.specs.declared.operations.Width.{Width}
use Rattle.a64_inst.specs.declared.operations.Width.TheVariants.{W, X}
use Rattle.a64_inst.specs.Domain.{next, stuck}
use Rattle.a64_inst.specs.Numbers.{bits_of, low, inverse, bit_of, asked, holds, chosen, zero_bit}
use Rattle.num_run.specs.Machine.{Machine}
use Rattle.paged_memory.specs.Mapping.{Mapping}
use Rattle.sym_expr.specs.declared.cause.Cause.TheVariants.{Flag}
use Rattle.sym_expr.specs.declared.cause.Cause.TheVariants as causes
use Rattle.sym_expr.specs.declared.program.Program.{Program}
use Rattle.sym_expr.specs.declared.value.KnownFlags.{KnownFlags}
use Rattle.sym_expr.specs.declared.value.Value.{Value}
use Rattle.sym_expr.specs.declared.value.Value.TheVariants.{Num, Addr, At}
use Rattle.sym_expr.specs.States.{State, object_size}
use Rattle.sym_expr.specs.Symbolic.{of_number, sum_of, flag_or, is_known, can_ask, guessed, condition_outcome, zero_outcome, is_zero_outcome, other_outcome, choose_outcome}
use Rattle.sym_expr.specs.Values.{number_in}
use Rattle.simulation.specs.Placement.{Placement}
use Rattle.simulation.specs.Meant.{Means}
use Rattle.simulation.specs.Held.{IsFlag, AreFlags, Related}
use Rattle.simulation.specs.Placed.{IsPlaced}
use Rattle.simulation.proofs.Arithmetic.{add_is}
use Rattle.simulation.proofs.Context.{Gives, IsTemp, plain, counted, number_is, one_follows}
use Rattle.simulation.proofs.Values.{means_small}
use Rattle.simulation.proofs.Sums.{answer, sum_gives}
use Rattle.simulation.proofs.Flags.{inside}

-- ---- conditions

flag_known : (o : Option Bool) (b : Bool) → IsFlag o b → is_known o ≡ true → flag_or false o ≡ b
flag_known None b h e = absurd (false≢true e)
flag_known (Some k) b h e = sym h

-- the same of a choice between two
either_alike : (t : Bool) (j k a b c d : Bool) → (j ≡ true → a ≡ b) → (k ≡ true → c ≡ d) → (if t then j else k) ≡ true → (if t then a else c) ≡ (if t then b else d)
either_alike true j k a b c d h i e = h e
either_alike false j k a b c d h i e = i e

asked_alike : (which : ℕ) (f : KnownFlags) (flags : Flags) → AreFlags f flags → can_ask which f ≡ true → asked which (guessed f) ≡ asked which flags
asked_alike which f flags h =
    let n = flag_known f.n flags.n h.n in
    let z = flag_known f.z flags.z h.z in
    let c = flag_known f.c flags.c h.c in
    let v = flag_known f.v flags.v h.v in
    either_alike (which == 0) _ _ _ _ _ _ z
    (either_alike (which == 1) _ _ _ _ _ _ c
    (either_alike (which == 2) _ _ _ _ _ _ n
    (either_alike (which == 3) _ _ _ _ _ _ v
    (either_alike (which == 4) _ _ _ _ _ _ (λ e. let both = and_parts (is_known f.c) (is_known f.z) e in rw (c both.0, z both.1) refl)
    (either_alike (which == 5) _ _ _ _ _ _ (λ e. let both = and_parts (is_known f.n) (is_known f.v) e in rw (n both.0, v both.1) refl)
    (either_alike (which == 6) _ _ _ _ _ _ (λ e.
    let first = and_parts (is_known f.n) (is_known f.v && is_known f.z) e in
    let second = and_parts (is_known f.v) (is_known f.z) first.1 in
    rw (n first.0, v second.0, z second.1) refl)
    (λ e. refl)))))))

pub bit_small : (b : Bool) → bit_of b < 2 ^ 64
bit_small true = omega arith
bit_small false = omega arith

module _ (pl : Placement) (g : Program) where
  asked_either : (t : Bool) (c : ℕ) (f : KnownFlags) (flags : Flags) → (t ≡ true → asked (c / 2) (guessed f) ≡ asked (c / 2) flags)
      → Gives pl g true (if t then next (Num (bit_of (holds c (guessed f)))) else stuck Flag) (answer (bit_of (holds c flags)))
  asked_either true c f flags h =
      let same : holds c (guessed f) ≡ holds c flags = ap (λ (a : Bool). if (c % 2 == 1) && not (c == 15) then not a else a) (h refl) in
      rw same (counted pl g true (bit_of (holds c flags)) (bit_small (holds c flags)))
  asked_either false c f flags h = tt

  pub conditions_agree : (c : ℕ) (s : State) (m : Machine) → Related pl g s m → Gives pl g true (condition_outcome c s) (answer (bit_of (holds c m.flags)))
  conditions_agree c s m h = asked_either (can_ask (c / 2) s.flags) c s.flags m.flags (asked_alike (c / 2) s.flags m.flags h.flags)

  -- ---- numbers

  pub of_one : (b : Bool) (f : ℕ → ℕ) (v : Value) (n : ℕ) → Means pl g v n → (n < 2 ^ 64 → f n < 2 ^ 64) → Gives pl g b (of_number f v) (answer (f n))
  of_one b f v n h small =
      one_follows (IsTemp pl g b) (Related pl g) (number_in v) n causes.Value (λ k. Num (f k)) (answer (f n)) (number_is pl g v n h) (λ t. counted pl g b (f n) (small t))

-- ---- tests against zero

zero_bit_small : (negated : Bool) (w n : ℕ) → zero_bit negated w n < 2 ^ 64
zero_bit_small true w n = bit_small (not (low w n == 0))
zero_bit_small false w n = bit_small (low w n == 0)

some_bit : (negated : Bool) (n : ℕ) → 0 < n → n < 2 ^ 64 → zero_bit negated 64 n ≡ bit_of negated
some_bit true n h k = ap (λ (b : Bool). bit_of (not b)) (ne_eqb (n % 2 ^ 64) 0 (λ e. omega (arith, e, h, k)))
some_bit false n h k = ap (λ (b : Bool). bit_of b) (ne_eqb (n % 2 ^ 64) 0 (λ e. omega (arith, e, h, k)))

module _ (pl : Placement) (g : Program) (memory : Mapping) (placed : IsPlaced pl g memory) where
  some_gives : (negated : Bool) (n : ℕ) → 0 < n → n < 2 ^ 64 → Gives pl g true (next (Num (bit_of negated))) (answer (zero_bit negated 64 n))
  some_gives negated n h k = rw (some_bit negated n h k) (counted pl g true (bit_of negated) (bit_small negated))

  address_either : (b : Bool) (negated : Bool) (n : ℕ) → (b ≡ true → (0 < n) × (n < 2 ^ 64)) → Gives pl g true (if b then next (Num (bit_of negated)) else stuck causes.Value) (answer (zero_bit negated 64 n))
  address_either true negated n h = some_gives negated n (h refl).0 (h refl).1
  address_either false negated n h = tt

  zeros : (negated : Bool) (v : Value) (n : ℕ) (s : State) (m : Machine) → Related pl g s m → Means pl g v n → Gives pl g true (zero_outcome negated v s) (answer (zero_bit negated 64 n))
  zeros negated (At p) n s m h k =
      let low = (placed.points p k.valid).low in
      let high = (placed.points p k.valid).high in
      let number = k.number in
      some_gives negated n (omega (arith, low, number)) (omega (arith, high, number))
  zeros negated (Addr o x) n s m h k =
      address_either (nat_le x (object_size s o)) negated n (λ e.
      let at = inside pl g memory placed s m o x n h k (leb-true x (object_size s o) e) in
      let low = at.1 in
      let high = at.2 in
      (omega (arith, low), omega (arith, high)))
  zeros negated v n s m h k = of_one pl g true (zero_bit negated 64) v n k (λ t. zero_bit_small negated 64 n)

  pub zero_tests_agree : (negated : Bool) (w : Width) (v : Value) (n : ℕ) (s : State) (m : Machine) → Related pl g s m → Means pl g v n
      → Gives pl g true (is_zero_outcome negated w v s) (answer (zero_bit negated (bits_of w) n))
  zero_tests_agree negated W v n s m h k = of_one pl g true (zero_bit negated 32) v n k (λ t. zero_bit_small negated 32 n)
  zero_tests_agree negated X v n s m h k = zeros negated v n s m h k

  -- ---- choices

  narrow_either : (z inverted more : Bool) (a b : Value) (m n : ℕ) → Means pl g a m → Means pl g b n
      → Gives pl g false (if z then of_number (λ k. chosen inverted more 32 0 0 k) b else of_number (λ k. chosen inverted more 32 1 k 0) a)
      (answer (if z then low 32 ((if inverted then inverse 32 n else n) + bit_of more) else low 32 m))
  narrow_either true inverted more a b m n h k = of_one pl g false (λ j. chosen inverted more 32 0 0 j) b n k (λ t. omega arith)
  narrow_either false inverted more a b m n h k = of_one pl g false (λ j. chosen inverted more 32 1 j 0) a m h (λ t. omega arith)

  same_value_gives : (v : Value) (n k : ℕ) → Means pl g v n → k ≡ n → Gives pl g false (next v) (answer k)
  same_value_gives v n k h e = plain pl g v k (subst (λ (x : ℕ). Means pl g v x) (sym e) h)

  others : (inverted more : Bool) (b : Value) (n : ℕ) → Means pl g b n → Gives pl g false (other_outcome g inverted more b) (answer (low 64 ((if inverted then inverse 64 n else n) + bit_of more)))
  others true more b n h = of_one pl g false (λ j. chosen true more 64 0 0 j) b n h (λ t. omega arith)
  others false true b n h =
      subst (λ (x : ℕ). Gives pl g false (sum_of g b (Num 1)) (answer x)) (add_is n 1) (sum_gives pl g memory placed b (Num 1) n 1 h (record { valid = omega arith; number = refl }))
  others false false b n h = let small = means_small pl g memory placed b n h in same_value_gives b n (low 64 (n + 0)) h (omega (arith, small))

  wide_either : (z inverted more : Bool) (a b : Value) (m n : ℕ) → Means pl g a m → Means pl g b n
      → Gives pl g false (if z then other_outcome g inverted more b else next a) (answer (if z then low 64 ((if inverted then inverse 64 n else n) + bit_of more) else low 64 m))
  wide_either true inverted more a b m n h k = others inverted more b n k
  wide_either false inverted more a b m n h k = let small = means_small pl g memory placed a m h in same_value_gives a m (low 64 m) h (omega (arith, small))

  pub choices_agree : (inverted more : Bool) (w : Width) (test a b : Value) (t m n : ℕ) → test ≡ Num t → Means pl g a m → Means pl g b n
      → Gives pl g false (choose_outcome g inverted more w test a b) (answer (chosen inverted more (bits_of w) t m n))
  choices_agree inverted more W test a b t m n e h k = rw e (narrow_either (t == 0) inverted more a b m n h k)
  choices_agree inverted more X test a b t m n e h k = rw e (wide_either (t == 0) inverted more a b m n h k)
