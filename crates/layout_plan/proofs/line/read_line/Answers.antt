use Rattle.std.proofs.Common.{◌∙◌, sym, subst, refl}
use Rattle.layout_plan.specs.Text.{WordsSay}
use Rattle.layout_plan.proofs.line.read_line.Goals as goal

pub returns-in-Ok-clause-fault : goal.returns-in-Ok-clause-fault
returns-in-Ok-clause-fault c = (
  c.args.number,
  refl,
  (
    refl,
    λ said says.
        c.in-None.ensures.none said (subst (λ ws. WordsSay ws said) (sym (c.in-Ok.ensures.only says.words says.utf8 says.has) ∙ sym c.as_slice.ensures) says.say),
  ),
)

pub returns-in-Err-Fault-clause-fault : goal.returns-in-Err-Fault-clause-fault
returns-in-Err-Fault-clause-fault c = (
  c.args.number,
  refl,
  (
    refl,
    λ said says.
        let memory = c.in-Err-Fault.ensures.only says.words says.utf8 says.has in let is = c.in-Err-Fault.field-0-is in cc,
  ),
)
