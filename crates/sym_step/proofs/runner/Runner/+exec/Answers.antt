use Rattle.std.proofs.Common.{◌≡◌, List, ◌∷◌, ap, ◌∙◌, rules}
use Rattle.a64_inst.specs.declared.operations.Op.{Op}
use Rattle.a64_inst.specs.Domain.{exec}
use Rattle.sym_expr.specs.Symbolic.{symbolic}
use Rattle.sym_step.specs.declared.flow.Flow.{Flow}
use Rattle.sym_step.specs.Runner.{flowed, state}
use Rattle.sym_step.proofs.runner.Runner.+exec.Goals as goal

pub returns-in-On-clause-flows : goal.returns-in-On-clause-flows
returns-in-On-clause-flows t c =
    let g = c.args.program.now in
    let rest = c.in-Some.rest.now in
    let split : c.args.ops.now ≡ c.in-Some.first.now ∷ rest = search rules in
    let mid = state c.perform.new.self in
    let values = c.perform.new.values.items in
    let one = ap (λ (ops : List Op). exec (symbolic g) ops c.args.values.now.items (state c.args.self.now)) split
    ∙ c.perform.ensures.flows (exec (symbolic g) rest)
    ∙ ap (λ (flow : Flow). flowed flow values mid (exec (symbolic g) rest)) c.in-On.is in
    rw one c.exec.ensures.flows
