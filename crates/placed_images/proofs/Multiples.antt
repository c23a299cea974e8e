-- Code stands on multiples of 4, and each data block on a multiple of its alignment.
use Rattle.std.proofs.Common.{◌≡◌, ℕ, zero, suc, ◌+◌, ◌-◌, ◌*◌, ◌/◌, ◌%◌, ◌^◌, ◌<◌, ◌≤◌, Bool, true, false, Option, Some, None, List, [], ◌∷◌, length, map, max, refl, sym, ap, subst, ◌∙◌, inl, inr, arith, lit<}
use Rattle.std.specs.Prelude.{◌&&◌, ◌==◌, if◌then◌else◌}
use Rattle.std.specs.List.{AllByRecursion as Every}
use Rattle.std.proofs.Math.Nat.{div-add-mod, mul-add-mod_self_left, mul_assoc, pow-suc, mod-lt, mod-eq_of_lt}
use Rattle.std.proofs.lemmas.Bool.{and_from, and_parts, cases_lt, eqb-true, cond-true, cond-false, eq-eqb}
use Rattle.sym_expr.specs.declared.layout.Layout.{Layout}
use Rattle.sym_expr.specs.declared.program.Piece.{Piece}
use Rattle.sym_expr.specs.declared.program.Piece.TheVariants.{Code as CodePiece, Data as DataPiece, Gap}
use Rattle.sym_expr.specs.declared.program.Program.{Program}
use Rattle.sym_expr.specs.declared.program.Stretch.{Stretch}
use Rattle.sym_expr.specs.Images.{addressed}
use Rattle.sym_expr.specs.Layouts.{accepted, address_of, IsAligned, least_from, placed as placed_spot, placed_stack}
use Rattle.sym_expr.specs.Placing.{Placed, greatest, needed, new_size, placed, placed_from, shape_of, spot_of, step_of, stretch_alignment}
use Rattle.sym_expr.specs.Points.{code_size, data_size, object_alignment}
use Rattle.sym_expr.specs.Tables.{common_power, effective}
use Rattle.sym_expr.specs.WellMade.{IsTiled, well_made}
use Rattle.placed_images.proofs.Found.{all_addressed, shifted}
use Rattle.placed_images.proofs.Lists.{every_both, every_flat, every_front, every_mapped, every_weaker}

-- ---- multiples

-- what is a number of times another leaves nothing
times : (n d q : ℕ) → 0 < d → d * q ≡ n → n % d ≡ 0
times n d q some e =
    let zero_more : d * q + 0 ≡ n = omega arith in
    ap (λ k. k % d) (sym zero_more) ∙ mul-add-mod_self_left d q 0 ∙ mod-eq_of_lt some

quotient : (n d : ℕ) → n % d ≡ 0 → d * (n / d) ≡ n
quotient n d whole = let split = div-add-mod n d in omega arith

-- a multiple of a multiple is one
through : (n m d : ℕ) → 0 < d → n % m ≡ 0 → m % d ≡ 0 → n % d ≡ 0
through n m d some whole inner =
    times n d (m / d * (n / m)) some (sym (mul_assoc d (m / d) (n / m)) ∙ ap (λ k. k * (n / m)) (quotient m d inner) ∙ quotient n m whole)

both_multiples : (a b d : ℕ) → 0 < d → a % d ≡ 0 → b % d ≡ 0 → (a + b) % d ≡ 0
both_multiples a b d some ha hb =
    let x = quotient a d ha in
    let y = quotient b d hb in
    let sum : d * (a / d) + d * (b / d) ≡ d * (a / d + b / d) = omega arith in
    times (a + b) d (a / d + b / d) some (omega arith)

power_some : (k : ℕ) → 0 < 2 ^ k
power_some zero = lit< tt
power_some (suc k) = let below = power_some k in let e = pow-suc 2 k in omega arith

-- a power of two divides each that is as great
power_divides : (k a : ℕ) → 2 ^ k ≤ 2 ^ a → 2 ^ a % 2 ^ k ≡ 0
power_divides zero a le = times (2 ^ a) (2 ^ 0) (2 ^ a) (power_some 0) (omega arith)
power_divides (suc k) zero le = let e = pow-suc 2 k in let some = power_some k in absurd (omega arith)
power_divides (suc k) (suc a) le =
    let e = pow-suc 2 k in
    let f = pow-suc 2 a in
    let below : 2 ^ k ≤ 2 ^ a = omega arith in
    let inner = quotient (2 ^ a) (2 ^ k) (power_divides k a below) in
    let turned : 2 ^ suc k * (2 ^ a / 2 ^ k) ≡ 2 * (2 ^ k * (2 ^ a / 2 ^ k)) = ap (λ n. n * (2 ^ a / 2 ^ k)) (omega arith) ∙ mul_assoc 2 (2 ^ k) (2 ^ a / 2 ^ k) in
    times (2 ^ suc a) (2 ^ suc k) (2 ^ a / 2 ^ k) (power_some (suc k)) (omega arith)

-- the least multiple from a number on is one
least_multiple : (n m : ℕ) → 0 < m → least_from n m 0 % m ≡ 0
least_multiple n m some =
    let whole = div-add-mod n m in
    let below = mod-lt n some in
    elim (cases_lt 0 (n % m)) [
      | inl over ↦
          let step : (0 + (m - n % m)) % m ≡ m - n % m = ap (λ d. d % m) (omega arith) ∙ mod-eq_of_lt (omega arith) in
          let next : m * (n / m + 1) ≡ m * (n / m) + m = omega arith in
          times (least_from n m 0) m (n / m + 1) some (omega arith)
      | inr none ↦
          let zero_left : n % m ≡ 0 = omega arith in
          let all : 0 + (m - n % m) ≡ m * 1 + 0 = omega arith in
          let step : (0 + (m - n % m)) % m ≡ 0 = ap (λ d. d % m) all ∙ mul-add-mod_self_left m 1 0 ∙ mod-eq_of_lt some in
          times (least_from n m 0) m (n / m) some (omega arith)
    ]

-- ---- effective alignments

abbrev both : ℕ → ℕ → ℕ → Bool
both k a o = (a % 2 ^ suc k == 0) && (o % 2 ^ suc k == 0)

-- a power of two that divides both
record IsCommon (most a o n : ℕ) : Type 0 where
  k : ℕ
  within : k ≤ most
  power : n ≡ 2 ^ k
  first : a % 2 ^ k ≡ 0
  second : o % 2 ^ k ≡ 0

one_common : (most a o : ℕ) → IsCommon most a o 1
one_common most a o = record { k = 0; within = omega arith; power = refl; first = times a 1 a (lit< tt) (omega arith); second = times o 1 o (lit< tt) (omega arith) }

common_if : (k a o : ℕ) (b : Bool) → both k a o ≡ b → IsCommon k a o (common_power k a o) → IsCommon (suc k) a o (if b then 2 ^ suc k else common_power k a o)
common_if k a o true is rest =
    let parts = and_parts (a % 2 ^ suc k == 0) (o % 2 ^ suc k == 0) is in
    record { k = suc k; within = omega arith; power = refl; first = eqb-true (a % 2 ^ suc k) 0 parts.0; second = eqb-true (o % 2 ^ suc k) 0 parts.1 }
common_if k a o false is rest = let le = rest.within in record { k = rest.k; within = omega arith; power = rest.power; first = rest.first; second = rest.second }

common : (k a o : ℕ) → IsCommon k a o (common_power k a o)
common zero a o = one_common zero a o
common (suc k) a o = common_if k a o (both k a o) refl (common k a o)

power_is : (k a o : ℕ) → a % 2 ^ suc k ≡ 0 → o % 2 ^ suc k ≡ 0 → common_power (suc k) a o ≡ 2 ^ suc k
power_is k a o ha ho = cond-true (both k a o) (2 ^ suc k) (common_power k a o) (and_from (a % 2 ^ suc k == 0) (o % 2 ^ suc k == 0) (eq-eqb (a % 2 ^ suc k) 0 ha) (eq-eqb (o % 2 ^ suc k) 0 ho))

power_most : (j k : ℕ) → j ≤ k → 2 ^ j ≤ 2 ^ k
power_most zero zero le = omega arith
power_most zero (suc k) le = let rest = power_most zero k (omega arith) in let e = pow-suc 2 k in omega arith
power_most (suc j) zero le = absurd (omega arith)
power_most (suc j) (suc k) le = let rest = power_most j k (omega arith) in let e = pow-suc 2 k in let f = pow-suc 2 j in omega arith

greater_if : (j k a o : ℕ) (b : Bool) → j ≤ suc k → 2 ^ j ≤ common_power k a o → 2 ^ j ≤ (if b then 2 ^ suc k else common_power k a o)
greater_if j k a o true le rest = power_most j (suc k) le
greater_if j k a o false le rest = rest

-- the greatest one
common_most : (k a o j : ℕ) → j ≤ k → a % 2 ^ j ≡ 0 → o % 2 ^ j ≡ 0 → 2 ^ j ≤ common_power k a o
common_most zero a o zero le ha ho = omega arith
common_most zero a o (suc j) le ha ho = absurd (omega arith)
common_most (suc k) a o j le ha ho =
    elim (cases_lt j (suc k)) [
      | inl below ↦ greater_if j k a o (both k a o) le (common_most k a o j (omega arith) ha ho)
      | inr over ↦
          let same : j ≡ suc k = omega arith in
          let P : ℕ → Type 0 = λ i. (a % 2 ^ i ≡ 0) × (o % 2 ^ i ≡ 0) in
          let here = subst P same (ha, ho) in
          let is = power_is k a o here.0 here.1 in
          let e : 2 ^ j ≡ 2 ^ suc k = ap (λ i. 2 ^ i) same in
          omega arith
    ]

-- what an alignment at an old offset means at a new one
pub record IsStep (entry : Option ℕ) (size o n : ℕ) : Type 0 where
  pub k : ℕ
  pub power : n ≡ 2 ^ k
  pub old : o % 2 ^ k ≡ 0
  pub new : (other : ℕ) → other % 2 ^ k ≡ 0 → 2 ^ k ≤ effective entry size other

one_most : (entry : Option ℕ) (size other : ℕ) → 1 ≤ effective entry size other
one_most None size other = omega arith
one_most (Some e) size other = either (size == 0) (e == 0)
  where
    either : (a b : Bool) → 1 ≤ (if a then 1 else if b then 1 else common_power 12 e other)
    either true b = omega arith
    either false true = omega arith
    either false false = let c = common 12 e other in let some = power_some c.k in let p = c.power in omega arith

step_one : (entry : Option ℕ) (size o : ℕ) → IsStep entry size o 1
step_one entry size o = record { k = 0; power = refl; old = times o 1 o (lit< tt) (omega arith); new = λ other whole. one_most entry size other }

step_if : (e size o : ℕ) (a b : Bool) → (size == 0) ≡ a → (e == 0) ≡ b → IsStep (Some e) size o (if a then 1 else if b then 1 else common_power 12 e o)
step_if e size o true b is_a is_b = step_one (Some e) size o
step_if e size o false true is_a is_b = step_one (Some e) size o
step_if e size o false false is_a is_b =
    let c = common 12 e o in
    record {
      k = c.k;
      power = c.power;
      old = c.second;
      new = λ other whole.
          let most = common_most 12 e other c.k c.within c.first whole in
          let x : effective (Some e) size other ≡ (if e == 0 then 1 else common_power 12 e other) = cond-false (size == 0) 1 (if e == 0 then 1 else common_power 12 e other) is_a in
          let y : (if e == 0 then 1 else common_power 12 e other) ≡ common_power 12 e other = cond-false (e == 0) 1 (common_power 12 e other) is_b in
          let P : ℕ → Type 0 = λ n. 2 ^ c.k ≤ n in
          subst P (sym (x ∙ y)) most;
    }

pub step_is : (entry : Option ℕ) (size o : ℕ) → IsStep entry size o (effective entry size o)
step_is None size o = step_one None size o
step_is (Some e) size o = step_if e size o (size == 0) (e == 0) refl refl

-- ---- in an interval

power_fours : (k : ℕ) → 2 ^ suc (suc k) % 4 ≡ 0
power_fours k = let a = pow-suc 2 (suc k) in let b = pow-suc 2 k in times (2 ^ suc (suc k)) 4 (2 ^ k) (lit< tt) (omega arith)

one_stays : (end o : ℕ) → end % 4 ≡ o % 4 → least_from end 1 0 % 4 ≡ o % 4
one_stays end o same = omega arith

-- an offset that moved by fours to a multiple of what its old place was one of has still moved by fours
stays_at : (k end o : ℕ) → end % 4 ≡ o % 4 → o % 2 ^ k ≡ 0 → least_from end (2 ^ k) 0 % 4 ≡ o % 4
stays_at zero end o same whole = omega arith
stays_at (suc zero) end o same whole = omega arith
stays_at (suc (suc k)) end o same whole =
    through (least_from end (2 ^ suc (suc k)) 0) (2 ^ suc (suc k)) 4 (lit< tt) (least_multiple end (2 ^ suc (suc k)) (power_some (suc (suc k)))) (power_fours k)
    ∙ sym (through o (2 ^ suc (suc k)) 4 (lit< tt) whole (power_fours k))

-- a piece stands on a multiple of a power of two that its interval's alignment is a multiple of
abbrev Stands : ℕ → Piece → Type 0
Stands at (CodePiece b) = at % 4 ≡ 0
Stands at (DataPiece b) = (k : ℕ) × (object_alignment b ≡ 2 ^ k) × (at % 2 ^ k ≡ 0) × (2 ^ k ≤ effective b.alignment (data_size b) at)
Stands at (Gap bytes) = Unit {0}

abbrev StandsIn : Placed → Type 0
StandsIn x = Stands x.at x.piece

code_moves : (end o n m : ℕ) → end % 4 ≡ o % 4 → (least_from end 1 0 + 4 * n) % 4 ≡ (o + 4 * m) % 4
code_moves end o n m same = omega arith

moves : (end o n : ℕ) → end % 4 ≡ o % 4 → (end + n) % 4 ≡ (o + n) % 4
moves end o n same = omega arith

-- the new offset of a data block
record Moved (entry : Option ℕ) (size o end : ℕ) : Type 0 where
  k : ℕ
  power : effective entry size o ≡ 2 ^ k
  multiple : least_from end (effective entry size o) 0 % 2 ^ k ≡ 0
  most : 2 ^ k ≤ effective entry size (least_from end (effective entry size o) 0)
  stays : least_from end (effective entry size o) 0 % 4 ≡ o % 4

moved : (entry : Option ℕ) (size o end : ℕ) → end % 4 ≡ o % 4 → Moved entry size o end
moved entry size o end same =
    let s = step_is entry size o in
    let at : least_from end (effective entry size o) 0 ≡ least_from end (2 ^ s.k) 0 = ap (λ m. least_from end m 0) s.power in
    let multiple : least_from end (effective entry size o) 0 % 2 ^ s.k ≡ 0 = ap (λ n. n % 2 ^ s.k) at ∙ least_multiple end (2 ^ s.k) (power_some s.k) in
    record {
      k = s.k;
      power = s.power;
      multiple = multiple;
      most = s.new (least_from end (effective entry size o) 0) multiple;
      stays = ap (λ n. n % 4) at ∙ stays_at s.k end o same s.old;
    }

stand_offsets : (o end : ℕ) (ps : List Piece) → IsTiled o ps → end % 4 ≡ o % 4 → Every StandsIn (placed_from end ps)
stand_offsets o end [] tiled same = tt
stand_offsets o end (CodePiece b ∷ ps) tiled same =
    (one_stays end o same ∙ tiled.1, stand_offsets (o + code_size b) (least_from end 1 0 + new_size (CodePiece b)) ps tiled.2 (code_moves end o (length b.own + length b.inserted) (length b.own) same))
stand_offsets o end (DataPiece b ∷ ps) tiled same =
    let at = least_from end (step_of (DataPiece b)) 0 in
    let there : end % 4 ≡ b.offset % 4 = same ∙ ap (λ n. n % 4) (sym tiled.0) in
    let m = moved b.alignment (data_size b) b.offset end there in
    let here : at % 4 ≡ o % 4 = m.stays ∙ ap (λ n. n % 4) tiled.0 in
    ((m.k, m.power, m.multiple, m.most), stand_offsets (o + data_size b) (at + data_size b) ps tiled.1 (moves at o (data_size b) here))
stand_offsets o end (Gap bytes ∷ ps) tiled same =
    (tt, stand_offsets (o + length bytes) (least_from end 1 0 + length bytes) ps tiled (moves (least_from end 1 0) o (length bytes) (one_stays end o same)))

-- ---- the alignment of an interval

abbrev IsPower : ℕ → Type 0
IsPower n = (k : ℕ) × (n ≡ 2 ^ k)

power_needed : (at : ℕ) (p : Piece) → IsPower (needed (record { at = at; piece = p }))
power_needed at (CodePiece b) = (2, refl)
power_needed at (DataPiece b) = let s = step_is b.alignment (data_size b) at in (s.k, s.power)
power_needed at (Gap bytes) = (0, refl)

power_max : (m n : ℕ) → IsPower m → IsPower n → IsPower (max m n)
power_max m n a b =
    elim (cases_lt m n) [
      | inl below ↦ let e : max m n ≡ n = omega arith in (b.0, e ∙ b.1)
      | inr above ↦ let e : max m n ≡ m = omega arith in (a.0, e ∙ a.1)
    ]

power_greatest : (xs : List Placed) → IsPower (greatest xs)
power_greatest [] = (0, refl)
power_greatest (x ∷ xs) = power_max (needed x) (greatest xs) (power_needed x.at x.piece) (power_greatest xs)

-- a multiple of an interval's alignment is one of each power that it is not below
under : (start align k : ℕ) → start % align ≡ 0 → IsPower align → 2 ^ k ≤ align → start % 2 ^ k ≡ 0
under start align k aligned power le =
    let is = power.1 in
    let divides = power_divides k power.0 (omega arith) in
    through start align (2 ^ k) (power_some k) aligned (ap (λ n. n % 2 ^ k) is ∙ divides)

-- ---- at addresses

-- code on a multiple of 4, data on one of its alignment
abbrev pub OnMultiple : ℕ → Piece → Type 0
OnMultiple at (CodePiece b) = at % 4 ≡ 0
OnMultiple at (DataPiece b) = at % object_alignment b ≡ 0
OnMultiple at (Gap bytes) = Unit {0}

abbrev pub IsOnMultiple : Placed → Type 0
IsOnMultiple x = OnMultiple x.at x.piece

on_multiple : (start align at : ℕ) (p : Piece) → start % align ≡ 0 → IsPower align → needed (record { at = at; piece = p }) ≤ align → Stands at p → OnMultiple (start + at) p
on_multiple start align at (CodePiece b) aligned power le four = let base : start % 4 ≡ 0 = under start align 2 aligned power le in omega arith
on_multiple start align at (DataPiece b) aligned power le s =
    let most = s.3 in
    let base = under start align s.0 aligned power (omega arith) in
    ap (λ n. (start + at) % n) s.1 ∙ both_multiples start at (2 ^ s.0) (power_some s.0) base s.2
on_multiple start align at (Gap bytes) aligned power le s = tt

all_on : (start align : ℕ) (xs : List Placed) → start % align ≡ 0 → IsPower align → greatest xs ≤ align → Every StandsIn xs → Every IsOnMultiple (shifted start xs)
all_on start align [] aligned power le all = tt
all_on start align (x ∷ xs) aligned power le all =
    let here : needed x ≤ align = omega arith in
    let rest : greatest xs ≤ align = omega arith in
    (on_multiple start align x.at x.piece aligned power here all.0, all_on start align xs aligned power rest all.1)

module _ (l : Layout) (g : Program) (well : well_made g) (laid : accepted l (shape_of g)) where
  aligned_each : Every (λ s. IsAligned (placed_spot l (spot_of s))) g.stretches
  aligned_each =
      every_mapped spot_of (λ s. IsAligned (placed_spot l s)) g.stretches
      (every_mapped (placed_spot l) IsAligned (map spot_of g.stretches) (every_front IsAligned (map (placed_spot l) (map spot_of g.stretches)) (placed_stack l ∷ []) laid.aligned))

  pub all_on_multiples : Every IsOnMultiple (all_addressed l g)
  all_on_multiples =
      every_flat (addressed l) IsOnMultiple g.stretches
      (every_weaker (λ s. IsAligned (placed_spot l (spot_of s)) × IsTiled 0 s.pieces) (λ (s : Stretch). Every IsOnMultiple (addressed l s))
      (λ s h. all_on (address_of l s.id) (stretch_alignment s) (placed s) h.0 (power_greatest (placed s)) (omega arith) (stand_offsets 0 0 s.pieces h.1 refl)) g.stretches
      (every_both (λ s. IsAligned (placed_spot l (spot_of s))) (λ (s : Stretch). IsTiled 0 s.pieces) g.stretches aligned_each well.tiled))
