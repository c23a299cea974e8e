use Rattle.std.proofs.Common.{subst, Ok}
use Rattle.sym_expr.specs.declared.shape.Shape.{Shape}
use Rattle.jobs.specs.Linking.{laid}
use Rattle.jobs.specs.Simulated.{IsSimulated, SimulatesProgram}
use Rattle.jobs.proofs.Chains.{on_ok_map}
use Rattle.jobs.proofs.link.link_under.Goals as goal

pub returns-clause-simulated : goal.returns-clause-simulated
returns-clause-simulated c =
    let layout = c.in_ok-layout.layout in
    let text = c.args.text.now in
    let under = subst (λ (shape : Shape). laid text shape (Ok layout)) c.in_ok-shape.ensures.value c.in_ok-layout.ensures.stage in
    let whole : IsSimulated c.args.program.now layout → SimulatesProgram text c.args.program.now = λ s. record { layout = layout; laid = under; simulated = s } in
    on_ok_map c.linked.result whole c.linked.ensures.simulated
