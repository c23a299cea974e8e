use Rattle.std.proofs.Common.{subst, ℕ, List, Err}
use Rattle.gt_read.specs.File.{file}
use Rattle.command_words.specs.declared.role.Role.TheVariants.{In}
use Rattle.command_words.specs.Picked.{picked_view}
use Rattle.jobs.specs.Inputs.{bytes_in}
use Rattle.jobs.specs.Contents.{contents_view}
use Rattle.jobs.specs.Printing.{PrintsIr}
use Rattle.jobs.specs.Stages.{Answers, meant}
use Rattle.jobs.proofs.Chains.{chain_goes, chain_stops}
use Rattle.jobs.proofs.printing.print.Goals as goal

pub returns-in_err-ir : goal.returns-in_err-ir
returns-in_err-ir c =
    let asked = picked_view c.args.asked.now in
    let contents = contents_view c.args.contents.now in
    let stopped = subst (λ (bytes : List ℕ). Answers (meant bytes) (Err c.in_err-ir.field-0.0)) c.bytes.ensures c.in_err-ir.ensures.stage in
    chain_stops (meant (bytes_in contents In)) (λ ir. PrintsIr asked contents ir) _ _ stopped c.from_residual.ensures.1

pub returns : goal.returns
returns c =
    let asked = picked_view c.args.asked.now in
    let contents = contents_view c.args.contents.now in
    let ir = c.in_ok-ir.ir in
    let found = subst (λ (bytes : List ℕ). file bytes ir) c.bytes.ensures c.in_ok-ir.ensures.stage in
    chain_goes (meant (bytes_in contents In)) (λ x. PrintsIr asked contents x) ir c.print_ir.result found c.print_ir.ensures
