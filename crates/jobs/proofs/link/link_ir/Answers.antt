use Rattle.std.proofs.Common.{Err, Ok, Option, List, ℕ, subst}
use Rattle.std.specs.Prelude.{OnOk}
use Rattle.command_words.specs.declared.role.Role.TheVariants.{Layout, Patch}
use Rattle.command_words.specs.Picked.{picked_view}
use Rattle.jobs.specs.Linking.{LinksProgram}
use Rattle.jobs.specs.Programs.{Programs}
use Rattle.jobs.specs.Contents.{contents_view}
use Rattle.jobs.specs.Simulated.{SimulatesProgram, SimulatesIr}
use Rattle.jobs.specs.Stages.{Answers}
use Rattle.jobs.proofs.Chains.{chain_goes, chain_stops, on_ok_map}
use Rattle.jobs.proofs.link.link_ir.Goals as goal

pub returns-in_err-program-clause-stage : goal.returns-in_err-program-clause-stage
returns-in_err-program-clause-stage c =
    let asked = picked_view c.args.asked.now in
    let contents = contents_view c.args.contents.now in
    let stopped = subst (λ (text : Option (List ℕ)). Answers (Programs asked text c.args.ir.now) (Err c.in_err-program.field-0.0)) c.of.ensures c.in_err-program.ensures.stage in
    chain_stops (Programs asked (contents Patch) c.args.ir.now) (λ g. LinksProgram (contents Layout) g) _ _ stopped c.from_residual.ensures.1

pub returns-clause-stage : goal.returns-clause-stage
returns-clause-stage c =
    let asked = picked_view c.args.asked.now in
    let contents = contents_view c.args.contents.now in
    let g = c.in_ok-program.program in
    let found = subst (λ (text : Option (List ℕ)). Programs asked text c.args.ir.now (Ok g)) c.of.ensures c.in_ok-program.ensures.stage in
    let linked = subst (λ (text : Option (List ℕ)). Answers (LinksProgram text g) c.link_under.result) c.of-2.ensures c.link_under.ensures.stage in
    chain_goes (Programs asked (contents Patch) c.args.ir.now) (λ g. LinksProgram (contents Layout) g) g c.link_under.result found linked

pub returns-clause-simulated : goal.returns-clause-simulated
returns-clause-simulated c =
    let asked = picked_view c.args.asked.now in
    let contents = contents_view c.args.contents.now in
    let g = c.in_ok-program.program in
    let found = subst (λ (text : Option (List ℕ)). Programs asked text c.args.ir.now (Ok g)) c.of.ensures c.in_ok-program.ensures.stage in
    let simulated = subst (λ (text : Option (List ℕ)). OnOk c.link_under.result (SimulatesProgram text g)) c.of-2.ensures c.link_under.ensures.simulated in
    let whole : SimulatesProgram (contents Layout) g → SimulatesIr asked contents c.args.ir.now = λ s. record { g = g; loads = found; program = s } in
    on_ok_map c.link_under.result whole simulated
