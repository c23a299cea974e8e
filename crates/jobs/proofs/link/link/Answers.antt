use Rattle.std.proofs.Common.{subst, ℕ, List, Err}
use Rattle.gt_read.specs.File.{file}
use Rattle.command_words.specs.declared.role.Role.TheVariants.{In}
use Rattle.command_words.specs.Picked.{picked_view}
use Rattle.jobs.specs.Inputs.{bytes_in}
use Rattle.jobs.specs.Linking.{LinksIr}
use Rattle.jobs.specs.Contents.{contents_view}
use Rattle.jobs.specs.Simulated.{SimulatesIr, SimulatesFile}
use Rattle.jobs.specs.Stages.{Answers, meant}
use Rattle.jobs.proofs.Chains.{chain_goes, chain_stops, on_ok_map}
use Rattle.jobs.proofs.link.link.Goals as goal

pub returns-in_err-ir-clause-stage : goal.returns-in_err-ir-clause-stage
returns-in_err-ir-clause-stage c =
    let asked = picked_view c.args.asked.now in
    let contents = contents_view c.args.contents.now in
    let stopped = subst (λ (bytes : List ℕ). Answers (meant bytes) (Err c.in_err-ir.field-0.0)) c.bytes.ensures c.in_err-ir.ensures.stage in
    chain_stops (meant (bytes_in contents In)) (λ ir. LinksIr asked contents ir) _ _ stopped c.from_residual.ensures.1

pub returns-clause-stage : goal.returns-clause-stage
returns-clause-stage c =
    let asked = picked_view c.args.asked.now in
    let contents = contents_view c.args.contents.now in
    let ir = c.in_ok-ir.ir in
    let found = subst (λ (bytes : List ℕ). file bytes ir) c.bytes.ensures c.in_ok-ir.ensures.stage in
    chain_goes (meant (bytes_in contents In)) (λ x. LinksIr asked contents x) ir c.link_ir.result found c.link_ir.ensures.stage

pub returns-clause-simulated : goal.returns-clause-simulated
returns-clause-simulated c =
    let asked = picked_view c.args.asked.now in
    let contents = contents_view c.args.contents.now in
    let ir = c.in_ok-ir.ir in
    let found = subst (λ (bytes : List ℕ). file bytes ir) c.bytes.ensures c.in_ok-ir.ensures.stage in
    let whole : SimulatesIr asked contents ir → SimulatesFile asked contents = λ s. record { ir = ir; means = found; of_ir = s } in
    on_ok_map c.link_ir.result whole c.link_ir.ensures.simulated
