-- Alignments are powers of two up to 4096.
use Rattle.std.proofs.Common.{◌≡◌, ℕ, zero, suc, ◌-◌, ◌%◌, ◌^◌, ◌==◌, ◌<◌, ◌≤◌, ◌&&◌, Bool, true, false, cond, max, Option, None, Some, refl, sym, subst, ◌∙◌, arith, inl, inr, sub-one}
use Rattle.std.proofs.Math.Nat.{max-eq_left, max-eq_right}
use Rattle.std.proofs.lemmas.Bool.{cond-true, cond-false, cases_Bool, cases_lt}
use Rattle.sym_expr.specs.Shapes.{IsAlignment}
use Rattle.sym_expr.specs.Tables.{common_power, effective}

-- one turn of the search for the power
pub common_power_step : (k a b : ℕ) → 0 < k → common_power k a b ≡ cond ((a % 2 ^ k == 0) && (b % 2 ^ k == 0)) (2 ^ k) (common_power (k - 1) a b)
common_power_step zero a b some = absurd (omega arith)
common_power_step (suc k) a b some = rw sub-one refl

power_is : (k a b : ℕ) → (j : ℕ) × (j ≤ k) × (common_power k a b ≡ 2 ^ j)
power_is zero a b = (0, omega arith, refl)
power_is (suc k) a b =
    let test = (a % 2 ^ suc k == 0) && (b % 2 ^ suc k == 0) in
    elim (cases_Bool test) [
      | inl passes ↦ (suc k, omega arith, cond-true test (2 ^ suc k) (common_power k a b) passes)
      | inr fails ↦ let rest = power_is k a b in (rest.0, omega (arith, rest.1), cond-false test (2 ^ suc k) (common_power k a b) fails ∙ rest.2)
    ]

pub one_is : IsAlignment 1
one_is = (0, omega arith, refl)

pub four_is : IsAlignment 4
four_is = (2, omega arith, refl)

pub common_power_is : (a b : ℕ) → IsAlignment (common_power 12 a b)
common_power_is a b = power_is 12 a b

by_size : (entry size offset : ℕ) (is_empty is_zero : Bool) → IsAlignment (cond is_empty 1 (cond is_zero 1 (common_power 12 entry offset)))
by_size entry size offset true is_zero = one_is
by_size entry size offset false true = one_is
by_size entry size offset false false = common_power_is entry offset

pub effective_is : (entry : Option ℕ) (size offset : ℕ) → IsAlignment (effective entry size offset)
effective_is None size offset = one_is
effective_is (Some entry) size offset = by_size entry size offset (size == 0) (entry == 0)

pub max_is : (a b : ℕ) → IsAlignment a → IsAlignment b → IsAlignment (max a b)
max_is a b p q =
    elim (cases_lt a b) [
      | inl less ↦ subst IsAlignment (sym (max-eq_right {n = a} {m = b} (omega arith))) q
      | inr more ↦ subst IsAlignment (sym (max-eq_left {n = a} {m = b} (omega arith))) p
    ]
