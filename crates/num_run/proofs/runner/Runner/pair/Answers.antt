use Rattle.std.proofs.Common.{◌≡◌, ℕ, sym, ap, ap₂, ◌∙◌, arith}
use Rattle.std.specs.Prelude.{◌==◌}
use Rattle.std.proofs.lemmas.Bool.{ne_eqb}
use Rattle.a64_inst.specs.declared.operations.Sum.TheVariants.{Add}
use Rattle.a64_inst.specs.Numbers.{sum_value}
use Rattle.a64_inst.specs.Domain.{then_do}
use Rattle.num_run.specs.Access.{pair_address, pair_accessed, advanced, moved}
use Rattle.num_run.specs.Runner.{machine}
use Rattle.num_run.proofs.Accesses.{comes_as, pair_post_is, pair_plain_is, pair_pre_is}
use Rattle.num_run.proofs.runner.Runner.pair.Goals as goal

pub returns-in-1-clause-comes : goal.returns-in-1-clause-comes
returns-in-1-clause-comes c =
    let m = machine c.args.self.now in
    let a = c.args in
    let at : c.sum-moved.result ≡ pair_address a.opc a.imm7 a.rn m = c.sum-moved.ensures ∙ ap₂ (sum_value Add 64) c.register-base.ensures c.pair_offset.ensures in
    comes_as _ _ c.pair_and_move.result (machine c.pair_and_move.new.self)
    (pair_post_is a.opc a.idx a.l a.imm7 a.rt2 a.rn a.rt m (ap (λ (i : ℕ). i == 2) c.in-1.is) (ap (λ (i : ℕ). i == 1) c.in-1.is) ∙ ap₂ (λ (x y : ℕ). then_do (pair_accessed a.opc a.l a.rt a.rt2 x m) (moved a.rn y)) (sym c.register-base.ensures) (sym at)) c.pair_and_move.ensures.comes

pub returns-in-2-clause-comes : goal.returns-in-2-clause-comes
returns-in-2-clause-comes c =
    let m = machine c.args.self.now in
    let a = c.args in
    let at : c.sum-moved.result ≡ pair_address a.opc a.imm7 a.rn m = c.sum-moved.ensures ∙ ap₂ (sum_value Add 64) c.register-base.ensures c.pair_offset.ensures in
    comes_as _ _ c.pair_only.result (machine c.pair_only.new.self)
    (pair_plain_is a.opc a.idx a.l a.imm7 a.rt2 a.rn a.rt m (ap (λ (i : ℕ). i == 2) c.in-2.is) ∙ ap (λ (x : ℕ). then_do (pair_accessed a.opc a.l a.rt a.rt2 x m) advanced) (sym at)) c.pair_only.ensures.comes

pub returns-in_default-clause-comes : goal.returns-in_default-clause-comes
returns-in_default-clause-comes c =
    let m = machine c.args.self.now in
    let a = c.args in
    let at : c.sum-moved.result ≡ pair_address a.opc a.imm7 a.rn m = c.sum-moved.ensures ∙ ap₂ (sum_value Add 64) c.register-base.ensures c.pair_offset.ensures in
    comes_as _ _ c.pair_and_move-in_default.result (machine c.pair_and_move-in_default.new.self)
    (pair_pre_is a.opc a.idx a.l a.imm7 a.rt2 a.rn a.rt m (ne_eqb a.idx 2 (λ e. omega (arith, e))) (ne_eqb a.idx 1 (λ e. omega (arith, e))) ∙ ap (λ (x : ℕ). then_do (pair_accessed a.opc a.l a.rt a.rt2 x m) (moved a.rn x)) (sym at)) c.pair_and_move-in_default.ensures.comes
