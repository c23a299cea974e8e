use Rattle.sym_expr.specs.Symbolic.{store_outcome}
use Rattle.sym_step.specs.Runner.{state}
use Rattle.sym_step.proofs.runner.Runner.put_stored.Goals as goal

pub returns-clause-flows : goal.returns-clause-flows
returns-clause-flows c =
    c.behind_store.ensures.flows (store_outcome c.args.bytes c.args.value.now c.args.at.now (state c.args.self.now)) c.in_ok-flow.ensures.flows
