use Rattle.std.proofs.Common.{subst, ℕ, List, Err}
use Rattle.command_words.specs.declared.role.Role.TheVariants.{In}
use Rattle.jobs.specs.Inputs.{bytes_in}
use Rattle.jobs.specs.Modules.{check_made}
use Rattle.command_words.specs.Picked.{picked_view}
use Rattle.jobs.specs.Contents.{contents_view}
use Rattle.jobs.specs.Stages.{Answers, exactly, meant}
use Rattle.jobs.proofs.Chains.{chain_stops}
use Rattle.jobs.proofs.check.check.Goals as goal

pub returns-in_err-ir : goal.returns-in_err-ir
returns-in_err-ir c =
    let stopped = subst (λ (bytes : List ℕ). Answers (meant bytes) (Err c.in_err-ir.field-0.0)) c.bytes.ensures c.in_err-ir.ensures.stage in
    chain_stops (meant (bytes_in (contents_view c.args.contents.now) In)) (λ ir. exactly (check_made (picked_view c.args.asked.now) ir)) _ _ stopped c.from_residual.ensures.1
