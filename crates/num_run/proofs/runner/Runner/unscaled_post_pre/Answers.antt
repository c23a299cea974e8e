use Rattle.std.proofs.Common.{◌≡◌, ℕ, sym, ap, ap₂, ◌∙◌, arith}
use Rattle.std.proofs.lemmas.Bool.{ne_eqb}
use Rattle.std.specs.Prelude.{◌==◌}
use Rattle.a64_inst.specs.declared.operations.Sum.TheVariants.{Add}
use Rattle.a64_inst.specs.Numbers.{sum_value, sign_extended}
use Rattle.a64_inst.specs.Domain.{then_do}
use Rattle.num_run.specs.Access.{accessed, advanced, moved}
use Rattle.num_run.specs.Runner.{machine}
use Rattle.num_run.proofs.Accesses.{comes_as, unscaled_is, post_is, pre_is, moved_base}
use Rattle.num_run.proofs.runner.Runner.unscaled_post_pre.Goals as goal

pub returns-in-0-clause-comes : goal.returns-in-0-clause-comes
returns-in-0-clause-comes c =
    let m = machine c.args.self.now in
    let a = c.args in
    let at : c.sum-moved.result ≡ moved_base a.imm9 a.rn m = c.sum-moved.ensures ∙ ap₂ (sum_value Add 64) c.register-base.ensures (c.sign_extended.ensures ∙ ap (sign_extended 9 64) c.from.ensures) in
    comes_as _ _ c.access_only.result (machine c.access_only.new.self)
    (unscaled_is a.size a.opc a.imm9 a.idx a.rn a.rt m (ap (λ (i : ℕ). i == 0) c.in-0.is) ∙ ap (λ (x : ℕ). then_do (accessed a.size a.opc a.rt x m) advanced) (sym at)) c.access_only.ensures.comes

pub returns-in-1-clause-comes : goal.returns-in-1-clause-comes
returns-in-1-clause-comes c =
    let m = machine c.args.self.now in
    let a = c.args in
    let at : c.sum-moved.result ≡ moved_base a.imm9 a.rn m = c.sum-moved.ensures ∙ ap₂ (sum_value Add 64) c.register-base.ensures (c.sign_extended.ensures ∙ ap (sign_extended 9 64) c.from.ensures) in
    comes_as _ _ c.access_and_move.result (machine c.access_and_move.new.self)
    (post_is a.size a.opc a.imm9 a.idx a.rn a.rt m (ap (λ (i : ℕ). i == 0) c.in-1.is) (ap (λ (i : ℕ). i == 1) c.in-1.is) ∙ ap₂ (λ (x y : ℕ). then_do (accessed a.size a.opc a.rt x m) (moved a.rn y)) (sym c.register-base.ensures) (sym at)) c.access_and_move.ensures.comes

pub returns-in_default-clause-comes : goal.returns-in_default-clause-comes
returns-in_default-clause-comes c =
    let m = machine c.args.self.now in
    let a = c.args in
    let at : c.sum-moved.result ≡ moved_base a.imm9 a.rn m = c.sum-moved.ensures ∙ ap₂ (sum_value Add 64) c.register-base.ensures (c.sign_extended.ensures ∙ ap (sign_extended 9 64) c.from.ensures) in
    comes_as _ _ c.access_and_move-in_default.result (machine c.access_and_move-in_default.new.self)
    (pre_is a.size a.opc a.imm9 a.idx a.rn a.rt m (ne_eqb a.idx 0 (λ e. omega (arith, e))) (ne_eqb a.idx 1 (λ e. omega (arith, e))) ∙ ap (λ (x : ℕ). then_do (accessed a.size a.opc a.rt x m) (moved a.rn x)) (sym at)) c.access_and_move-in_default.ensures.comes
