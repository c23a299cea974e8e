-- What the rows of sums come to.
use Rattle.std.proofs.Common.{◌≡◌, ℕ, ◌*◌, ◌^◌, true, false, [], ◌∷◌, refl, arith}
use Rattle.std.specs.Prelude.{◌==◌, ◌&&◌}
use Rattle.std.proofs.lemmas.Bool.{cond_both, and_parts, eqb-true}
use Rattle.std.proofs.lemmas.Grind.{common_steps}
use Rattle.a64_inst.specs.declared.operations.Width.{Width}
use Rattle.a64_inst.specs.declared.operations.Sum.{Sum}
use Rattle.a64_inst.specs.declared.operations.Unary.TheVariants.{Shift, Extend}
use Rattle.a64_inst.specs.declared.operations.Op.TheVariants as op
use Rattle.a64_inst.specs.Numbers.{bits_of, operand_value}
use Rattle.a64_inst.specs.Domain.{next, exec}
use Rattle.a64_inst.specs.Meaning.{ops, width_of, sum_of, flagged_sum, flagged_sum_or_stack}
use Rattle.a64_inst.specs.declared.inst.Inst.TheVariants.{AddSubImm, AddSubShifted, AddSubExtended}
use Rattle.num_run.specs.Machine.{Machine, register}
use Rattle.num_run.specs.Numeric.{numeric}
use Rattle.num_run.specs.Results.{summed, summed_or_stack}
use Rattle.num_run.proofs.Accesses.{next_either}

-- a sum with flags or without
flagged : (width : Width) (s a b rd : ℕ) (sum : Sum) (m : Machine) → exec numeric (flagged_sum_or_stack width s sum 1 2 rd) (a ∷ b ∷ []) m ≡ next (summed_or_stack sum (bits_of width) s a b rd m)
flagged width s a b rd sum m = grind (arith, common_steps)

flagged_behind : (width : Width) (s a x b rd : ℕ) (sum : Sum) (m : Machine) → exec numeric (flagged_sum width s sum 2 3 rd) (a ∷ x ∷ b ∷ []) m ≡ next (summed sum (bits_of width) s a b rd m)
flagged_behind width s a x b rd sum m = grind (arith, common_steps)

stack_behind : (width : Width) (s a x b rd : ℕ) (sum : Sum) (m : Machine) → exec numeric (flagged_sum_or_stack width s sum 2 3 rd) (a ∷ x ∷ b ∷ []) m ≡ next (summed_or_stack sum (bits_of width) s a b rd m)
stack_behind width s a x b rd sum m = grind (arith, common_steps)

pub sum_shifted : (sf sum s shift rm imm6 rn rd : ℕ) (m : Machine) →
    exec numeric (ops (AddSubShifted sf sum s shift rm imm6 rn rd)) [] m
    ≡ next (summed (sum_of sum) (bits_of (width_of sf)) s (register false rn m) (operand_value (Shift shift imm6) (bits_of (width_of sf)) (register false rm m)) rd m)
sum_shifted sf sum s shift rm imm6 rn rd m =
    simp next_either (flagged_behind (width_of sf) s (register false rn m) (register false rm m) (operand_value (Shift shift imm6) (bits_of (width_of sf)) (register false rm m)) rd (sum_of sum) m)

pub sum_extended : (sf sum s rm option imm3 rn rd : ℕ) (m : Machine) →
    exec numeric (ops (AddSubExtended sf sum s rm option imm3 rn rd)) [] m
    ≡ next (summed_or_stack (sum_of sum) (bits_of (width_of sf)) s (register true rn m) (operand_value (Extend option imm3) (bits_of (width_of sf)) (register false rm m)) rd m)
sum_extended sf sum s rm option imm3 rn rd m =
    simp next_either (stack_behind (width_of sf) s (register true rn m) (register false rm m) (operand_value (Extend option imm3) (bits_of (width_of sf)) (register false rm m)) rd (sum_of sum) m)

pub sum_imm : (sf sum s sh imm12 rn rd : ℕ) (m : Machine) →
    exec numeric (ops (AddSubImm sf sum s sh imm12 rn rd)) [] m ≡ next (summed_or_stack (sum_of sum) (bits_of (width_of sf)) s (register true rn m) (imm12 * 2 ^ (12 * sh)) rd m)
sum_imm sf sum s sh imm12 rn rd m =
    cond_both ((sf == 1) && ((sum == 0) && ((s == 0) && (sh == 0))))
    (op.Read true rn ∷ op.JoinLow 1 imm12 0 ∷ op.Write true rd 1 ∷ [])
    (op.Read true rn ∷ op.Number (imm12 * 2 ^ (12 * sh)) ∷ flagged_sum_or_stack (width_of sf) s (sum_of sum) 1 2 rd)
    (λ l. exec numeric l [] m ≡ next (summed_or_stack (sum_of sum) (bits_of (width_of sf)) s (register true rn m) (imm12 * 2 ^ (12 * sh)) rd m))
    (λ e.
    let first = and_parts (sf == 1) ((sum == 0) && ((s == 0) && (sh == 0))) e in
    let second = and_parts (sum == 0) ((s == 0) && (sh == 0)) first.1 in
    let third = and_parts (s == 0) (sh == 0) second.1 in
    rw (eqb-true sf 1 first.0, eqb-true sum 0 second.0, eqb-true s 0 third.0, eqb-true sh 0 third.1) refl)
    (λ e. flagged (width_of sf) s (register true rn m) (imm12 * 2 ^ (12 * sh)) rd (sum_of sum) m)
