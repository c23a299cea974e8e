use Rattle.std.proofs.Common.{◌≡◌, List, [], ap, refl, sym, ◌∙◌}
use Rattle.a64_inst.specs.Domain.{next}
use Rattle.sym_expr.specs.declared.value.Value.{Value}
use Rattle.sym_expr.specs.States.{State}
use Rattle.sym_expr.specs.Symbolic.{Outcome, advanced}
use Rattle.sym_step.specs.declared.flow.Flow.{Flow}
use Rattle.sym_step.specs.Runner.{flowed, state}
use Rattle.sym_step.proofs.Commons.{not_on}
use Rattle.sym_step.proofs.runner.Runner.behind_store.Goals as goal

pub returns-in-On-clause-flows : goal.returns-in-On-clause-flows
returns-in-On-clause-flows c = λ outcome flows.
    let go : List Value → State → Outcome State = λ values t. next (advanced c.args.program.now t) in
    let s = state c.args.self.now in
    flows [] go ∙ ap (λ (flow : Flow). flowed flow [] s go) c.in-On.is ∙ ap next (sym c.advance_to.ensures.machine)

pub returns-in_default : goal.returns-in_default
returns-in_default c = record {
  flows = λ outcome flows. not_on c.args.flow outcome (state c.args.self.now) (λ t. next (advanced c.args.program.now t)) c.in_default.not-On flows;
  output = refl;
}
