use Rattle.std.proofs.Common.{Err, Ok, Option, List, ℕ, subst}
use Rattle.gt_write.specs.Canonical.{canonical}
use Rattle.command_words.specs.declared.role.Role.TheVariants.{Patch}
use Rattle.command_words.specs.Picked.{picked_view}
use Rattle.jobs.specs.Contents.{contents_view}
use Rattle.jobs.specs.Recode.{written}
use Rattle.jobs.specs.Rewriting.{Repairs}
use Rattle.jobs.specs.Stages.{Answers, just}
use Rattle.jobs.proofs.Chains.{chain_stops}
use Rattle.jobs.proofs.rewriting.rewrite_ir.Goals as goal

pub returns-in_err-new-clause-stage : goal.returns-in_err-new-clause-stage
returns-in_err-new-clause-stage c =
    let asked = picked_view c.args.asked.now in
    let contents = contents_view c.args.contents.now in
    let stopped = subst (λ (text : Option (List ℕ)). Answers (Repairs asked text c.args.ir.now) (Err c.in_err-new.field-0.0)) c.of.ensures c.in_err-new.ensures.stage in
    chain_stops (Repairs asked (contents Patch) c.args.ir.now) (λ new. just (written (canonical new))) _ _ stopped c.from_residual.ensures.1

pub returns-clause-means : goal.returns-clause-means
returns-clause-means c =
    let asked = picked_view c.args.asked.now in
    let contents = contents_view c.args.contents.now in
    let new = c.in_ok-new.new in
    let found = subst (λ (text : Option (List ℕ)). Repairs asked text c.args.ir.now (Ok new)) c.of.ensures c.in_ok-new.ensures.stage in
    record { new = new; repairs = found; alone = c.in_ok-spelled.ensures.means }
