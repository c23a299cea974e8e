use Rattle.std.proofs.Common.{◌≡◌, subst, ℕ, List, Err}
use Rattle.gt_model.specs.declared.ir.Ir.{Ir}
use Rattle.gt_read.specs.File.{file}
use Rattle.gt_write.specs.Canonical.{canonical}
use Rattle.command_words.specs.declared.role.Role.TheVariants.{In}
use Rattle.jobs.specs.Inputs.{bytes_in}
use Rattle.jobs.specs.Contents.{contents_view}
use Rattle.jobs.specs.Recode.{Means, written}
use Rattle.jobs.specs.Stages.{Answers, just, meant}
use Rattle.jobs.proofs.Chains.{chain_stops}
use Rattle.jobs.proofs.recode.recode.Goals as goal

pub returns-in_err-ir-clause-stage : goal.returns-in_err-ir-clause-stage
returns-in_err-ir-clause-stage c =
    let stopped = subst (λ (bytes : List ℕ). Answers (meant bytes) (Err c.in_err-ir.field-0.0)) c.bytes.ensures c.in_err-ir.ensures.stage in
    chain_stops (meant (bytes_in (contents_view c.args.contents.now) In)) (λ ir. just (written (canonical ir))) _ _ stopped c.from_residual.ensures.1

pub returns-clause-reads_back : goal.returns-clause-reads_back
returns-clause-reads_back c = λ ir its.
    let found = subst (λ (bytes : List ℕ). file bytes c.in_ok-ir.ir) c.bytes.ensures c.in_ok-ir.ensures.stage in
    let same : c.in_ok-ir.ir ≡ ir = c.one_meaning.ensures _ _ _ found its in
    subst (λ (x : Ir). Means (canonical x) x) same c.in_ok-spelled.ensures.means
