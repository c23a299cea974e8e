use Rattle.std.proofs.Common.{◌≡◌, Some, sym, ◌∙◌, rules}
use Rattle.sym_expr.specs.Points.{reached, word_at}
use Rattle.sym_step.specs.Runner.{state}
use Rattle.sym_step.proofs.runner.Runner.step_anew.Goals as goal

pub returns-clause-flows : goal.returns-clause-flows
returns-clause-flows c =
    let g = c.args.program.now in
    let s = state c.args.self.now in
    let point : reached g s.place ≡ c.reached-at.result = search rules in
    let here : word_at g c.reached-at.result ≡ Some c.in-Some.word = search rules in
    let found = c.new-found.ensures.is g point here c.after-onward.ensures in
    found.does s (sym c.new-found.ensures.place) ∙ c.in_ok-flow.ensures.flows
