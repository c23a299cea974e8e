-- Pages that are joined with low twelve bits: of one target, or of two in one granule of a data block.
use Rattle.std.proofs.Common.{◌≡◌, ℕ, zero, suc, ◌+◌, ◌-◌, ◌*◌, ◌/◌, ◌%◌, ◌^◌, ◌<◌, ◌≤◌, inl, inr, Bool, true, false, Option, Some, None, refl, sym, ap, ◌∙◌, arith}
use Rattle.std.specs.Prelude.{◌==◌, ◌&&◌, ◌||◌, if◌then◌else◌}
use Rattle.std.specs.Option.{option_map_or}
use Rattle.std.specs.Str.{bytes_eq}
use Rattle.std.proofs.lemmas.Bool.{and_parts, or_cases, eqb-true, false≢true}
use Rattle.std.proofs.lemmas.Slice.Eq.{bytes_eq-Decides}
use Rattle.std.proofs.lemmas.Nat.{pow-add, pow_pos, div-add-mod'}
use Rattle.std.proofs.Math.Nat.{add-mul-div_right, div-div-eq-div-mul, mul_comm}
use Rattle.a64_inst.specs.declared.operations.Op.TheVariants as op
use Rattle.a64_inst.specs.declared.operations.Sum.TheVariants.{Add}
use Rattle.a64_inst.specs.Domain.{stuck}
use Rattle.a64_inst.specs.Fitting.{page_of}
use Rattle.a64_inst.specs.Numbers.{sum_value}
use Rattle.paged_memory.specs.Mapping.{Mapping}
use Rattle.sym_expr.specs.declared.cause.Cause.TheVariants as causes
use Rattle.sym_expr.specs.declared.program.DataBlock.{DataBlock}
use Rattle.sym_expr.specs.declared.program.Program.{Program}
use Rattle.sym_expr.specs.declared.target.Target.{Target}
use Rattle.sym_expr.specs.declared.target.Target.TheVariants.{Number, Address, Undefined}
use Rattle.sym_expr.specs.declared.value.Value.{Value}
use Rattle.sym_expr.specs.declared.value.Value.TheVariants.{Num, PageOf}
use Rattle.sym_expr.specs.Points.{data_at, data_size, object_alignment}
use Rattle.sym_expr.specs.Tables.{common_power, effective}
use Rattle.sym_expr.specs.Symbolic.{or_stuck, one_granule, joined_to, joined, join_low_outcome}
use Rattle.sym_expr.specs.Values.{same_target, value_of}
use Rattle.simulation.specs.Placement.{Placement, target_number}
use Rattle.simulation.specs.Meant.{IsTarget, Means}
use Rattle.simulation.specs.Placed.{IsPlaced}
use Rattle.simulation.proofs.Arithmetic.{page_join}
use Rattle.simulation.proofs.Context.{Gives, plain}
use Rattle.simulation.proofs.Values.{target_is, target_small, target_value}
use Rattle.simulation.proofs.Sums.{answer, sum_gives}
use Rattle.simulation.proofs.Tests.{of_one}
use Rattle.simulation.proofs.Operands.{Filling, plain_operand, filled_operand, field_in, Names, IsNamed}

-- ---- powers of two up to 4096

-- a number that divides 4096
pub record Divides (k : ℕ) : Type 0 where
  pub times : ℕ
  pub all : times * k ≡ 4096
  pub some : 0 < k

power_divides : (k : ℕ) → k ≤ 12 → Divides (2 ^ k)
power_divides k h =
    let all : 12 - k + k ≡ 12 = omega arith in
    record { times = 2 ^ (12 - k); all = sym (pow-add 2 (12 - k) k) ∙ ap (λ (n : ℕ). 2 ^ n) all; some = pow_pos k }

either_divides : (b : Bool) (j k : ℕ) → Divides j → Divides k → Divides (if b then j else k)
either_divides true j k h i = h
either_divides false j k h i = i

common_divides : (k a b : ℕ) → k ≤ 12 → Divides (common_power k a b)
common_divides zero a b h = power_divides 0 h
common_divides (suc k) a b h =
    either_divides ((a % 2 ^ suc k == 0) && (b % 2 ^ suc k == 0)) (2 ^ suc k) (common_power k a b) (power_divides (suc k) h) (common_divides k a b (omega (arith, h)))

effective_divides : (entry : Option ℕ) (size offset : ℕ) → Divides (effective entry size offset)
effective_divides None size offset = power_divides 0 (omega arith)
effective_divides (Some entry) size offset =
    either_divides (size == 0) 1 _ (power_divides 0 (omega arith)) (either_divides (entry == 0) 1 _ (power_divides 0 (omega arith)) (common_divides 12 entry offset (omega arith)))

-- how many granules there are before an address
granules : (a x k : ℕ) → 0 < k → a % k ≡ 0 → (a + x) / k ≡ x / k + a / k
granules a x k some h =
    let whole : a + x ≡ x + a / k * k = omega (arith, div-add-mod' a k, h) in
    ap (λ (n : ℕ). n / k) whole ∙ add-mul-div_right x (a / k) some

page_from : (a b : ℕ) → a / 4096 ≡ b / 4096 → page_of (a % 2 ^ 64) ≡ page_of (b % 2 ^ 64)
page_from a b e = omega (arith, e)

pages_of : (a b k : ℕ) → Divides k → a / k ≡ b / k → page_of (a % 2 ^ 64) ≡ page_of (b % 2 ^ 64)
pages_of a b k d e =
    let turned : k * d.times ≡ 4096 = mul_comm k d.times ∙ d.all in
    let by : (n : ℕ) → n / 4096 ≡ n / k / d.times = λ n. ap (λ (m : ℕ). n / m) (sym turned) ∙ sym (div-div-eq-div-mul n k d.times) in
    page_from a b (by a ∙ ap (λ (n : ℕ). n / d.times) e ∙ sym (by b))

-- two offsets in one granule of a block that stands on a multiple of it have one page
granule_page : (a x y k : ℕ) → Divides k → a % k ≡ 0 → x / k ≡ y / k → page_of ((a + x) % 2 ^ 64) ≡ page_of ((a + y) % 2 ^ 64)
granule_page a x y k d h e = pages_of (a + x) (a + y) k d (granules a x k d.some h ∙ ap (λ (n : ℕ). n + a / k) e ∙ sym (granules a y k d.some h))

module _ (pl : Placement) (g : Program) (memory : Mapping) (placed : IsPlaced pl g memory) where
  in_block : (o : Option DataBlock) (a x y : ℕ) → ((d : DataBlock) → o ≡ Some d → a % object_alignment d ≡ 0)
      → option_map_or (λ d. x / object_alignment d == y / object_alignment d) o false ≡ true → page_of ((a + x) % 2 ^ 64) ≡ page_of ((a + y) % 2 ^ 64)
  in_block None a x y h e = absurd (false≢true e)
  in_block (Some d) a x y h e =
      granule_page a x y (object_alignment d) (effective_divides d.alignment (data_size d) d.offset) (h d refl) (eqb-true (x / object_alignment d) (y / object_alignment d) e)

  granule_pages : (t u : Target) → one_granule g t u ≡ true → page_of (target_number pl g t) ≡ page_of (target_number pl g u)
  granule_pages (Address a x) (Address b y) e =
      let both = and_parts (bytes_eq a b) (option_map_or (λ d. x / object_alignment d == y / object_alignment d) (data_at g a) false) e in
      rw (← (bytes_eq-Decides a b).0 both.0) (in_block (data_at g a) (pl.block a) x y (placed.aligned a) both.1)
  granule_pages t u e = absurd (false≢true e)

  one_page : (t u : Target) → (same_target t u || one_granule g t u) ≡ true → page_of (target_number pl g t) ≡ page_of (target_number pl g u)
  one_page t u e =
      elim (or_cases (same_target t u) (one_granule g t u) e) [
        | inl same ↦ ap (λ (x : Target). page_of (target_number pl g x)) (target_is t u same)
        | inr near ↦ granule_pages t u near
      ]

  joined_either : (b : Bool) (t : Target) (n : ℕ) → IsTarget g t → (b ≡ true → n ≡ target_number pl g t) → Gives pl g false (if b then or_stuck causes.Value (value_of t) else stuck causes.Value) (answer n)
  joined_either true t n h e =
      let found = target_value pl g memory placed t h in
      rw (found.1, e refl) (plain pl g found.0 (target_number pl g t) found.2)
  joined_either false t n h e = tt

  page_joined : (t : Target) (v : Value) (m low : ℕ) → IsTarget g t → Means pl g v m → low ≡ target_number pl g t % 4096 → Gives pl g false (joined_to g t v) (answer (sum_value Add 64 m low))
  page_joined t (PageOf u) m low h k e =
      joined_either (same_target t u || one_granule g t u) t (sum_value Add 64 m low) h
      (λ same. rw (k.number, e, ← one_page t u same) (page_join (target_number pl g t) (target_small pl g memory placed t h)))
  page_joined t v m low h k e = tt

  joined_gives : (t : Target) (v : Value) (m low : ℕ) → IsTarget g t → Means pl g v m → low ≡ target_number pl g t % 4096 → Gives pl g false (joined g v t) (answer (sum_value Add 64 m low))
  joined_gives (Number n) v m low h k e = rw e (of_one pl g false (λ j. sum_value Add 64 j (n % 4096)) v m k (λ t. omega arith))
  joined_gives (Undefined symbol) v m low h k e = tt
  joined_gives t v m low h k e = page_joined t v m low h k e

  pub joins_agree : (unit field place a : ℕ) (t : Option Target) (f : Filling) (v : Value) (m : ℕ) → field * unit < 2 ^ 64 → IsNamed g t → Names pl g place t f (op.JoinLow unit field a) → Means pl g v m
      → Gives pl g false (join_low_outcome g unit field v t) (answer (sum_value Add 64 m (field_in f field * unit)))
  joins_agree unit field place a None plain_operand v m small h k means = sum_gives pl g memory placed v (Num (field * unit)) m (field * unit) means (record { valid = small; number = refl })
  joins_agree unit field place a None (filled_operand offset other) v m small h k means = absurd k
  joins_agree unit field place a (Some t) plain_operand v m small h k means = absurd k
  joins_agree unit field place a (Some t) (filled_operand offset other) v m small h k means = joined_gives t v m (other * unit) h means k
