use Rattle.std.proofs.Common.{Err, Ok, Option, List, ℕ, subst}
use Rattle.command_words.specs.declared.role.Role.TheVariants.{Patch}
use Rattle.command_words.specs.Picked.{picked_view}
use Rattle.jobs.specs.Linking.{laid_out}
use Rattle.jobs.specs.Programs.{Programs}
use Rattle.jobs.specs.Contents.{contents_view}
use Rattle.jobs.specs.Stages.{Answers, just}
use Rattle.jobs.proofs.Chains.{chain_goes, chain_stops}
use Rattle.jobs.proofs.layout.layout_ir.Goals as goal

pub returns-in_err-program : goal.returns-in_err-program
returns-in_err-program c =
    let asked = picked_view c.args.asked.now in
    let contents = contents_view c.args.contents.now in
    let stopped = subst (λ (text : Option (List ℕ)). Answers (Programs asked text c.args.ir.now) (Err c.in_err-program.field-0.0)) c.of.ensures c.in_err-program.ensures.stage in
    chain_stops (Programs asked (contents Patch) c.args.ir.now) (λ g. just (laid_out g)) _ _ stopped c.from_residual.ensures.1
