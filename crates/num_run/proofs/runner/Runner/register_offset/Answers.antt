use Rattle.std.proofs.Common.{◌≡◌, ℕ, ◌*◌, sym, ap, ap₂, ◌∙◌}
use Rattle.a64_inst.specs.declared.operations.Unary.TheVariants.{Extend}
use Rattle.a64_inst.specs.declared.operations.Sum.TheVariants.{Add}
use Rattle.a64_inst.specs.Numbers.{sum_value, operand_value}
use Rattle.a64_inst.specs.Domain.{then_do}
use Rattle.num_run.specs.Access.{accessed, advanced}
use Rattle.num_run.specs.Runner.{machine}
use Rattle.num_run.proofs.Accesses.{comes_as, register_is, register_sum}
use Rattle.num_run.proofs.runner.Runner.register_offset.Goals as goal

pub returns-clause-comes : goal.returns-clause-comes
returns-clause-comes c =
    let m = machine c.args.self.now in
    let a = c.args in
    let at : c.sum-at.result ≡ register_sum a.rm a.option (a.s * a.size) a.rn m = c.sum-at.ensures ∙ ap₂ (sum_value Add 64) c.register-2.ensures (c.extended_operand-offset.ensures ∙ ap (operand_value (Extend a.option (a.s * a.size)) 64) c.register.ensures) in
    comes_as _ _ c.access_only.result (machine c.access_only.new.self)
    (register_is a.size a.opc a.rm a.option a.s a.rn a.rt m ∙ ap (λ (x : ℕ). then_do (accessed a.size a.opc a.rt x m) advanced) (sym at)) c.access_only.ensures.comes
