use Rattle.std.proofs.Common.{◌≡◌, sym, subst}
use Rattle.std.specs.Prelude.{IfOk}
use Rattle.sym_expr.specs.States.{State}
use Rattle.sym_expr.specs.Symbolic.{Outcome}
use Rattle.sym_step.specs.declared.flow.Flow.{Flow}
use Rattle.sym_step.specs.Runner.{came, state}
use Rattle.sym_step.proofs.runner.Runner.step.Goals as goal

pub execute-requires : goal.execute-requires
execute-requires c = c.in-Some.ensures.1 c.args.program.now c.requires

pub returns-in-Some-clause-flows : goal.returns-in-Some-clause-flows
returns-in-Some-clause-flows c =
    let found = c.in-Some.ensures.1 c.args.program.now c.requires in
    let does = found.does (state c.args.self.now) (sym c.in-Some.ensures.0) in
    subst (λ (o : Outcome State). IfOk c.execute.result (λ (flow : Flow). o ≡ came flow (state c.execute.new.self))) (sym does) c.execute.ensures.flows
