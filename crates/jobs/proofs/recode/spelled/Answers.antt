use Rattle.std.proofs.Common.{subst, List, ℕ}
use Rattle.gt_read.specs.File.{file}
use Rattle.gt_write.specs.Canonical.{canonical}
use Rattle.jobs.specs.Recode.{Means}
use Rattle.jobs.proofs.Chains.{on_ok}
use Rattle.jobs.proofs.recode.spelled.Goals as goal

pub returns-clause-means : goal.returns-clause-means
returns-clause-means c =
    let it = subst (λ (bytes : List ℕ). file bytes c.args.ir.now) c.in_ok-out.ensures.canonical c.in_ok-out.ensures.reads in
    let alone : Means (canonical c.args.ir.now) c.args.ir.now = record { it = it; alone = λ other its. c.one_meaning.ensures _ _ _ its it } in
    on_ok _ _ alone
