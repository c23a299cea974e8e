use Rattle.std.proofs.Common.{◌∙◌, ap, sym, List, ℕ, None, Ok, Result}
use Rattle.ir_check.specs.declared.report.CheckReport.{CheckReport}
use Rattle.jobs.specs.declared.verdict.Finished.{Finished}
use Rattle.jobs.specs.declared.verdict.Refusal.{Refusal}
use Rattle.jobs.specs.Modules.{told}
use Rattle.jobs.proofs.Binding.{bind_ok}
use Rattle.jobs.proofs.check.check_ir.Goals as goal

done : List ℕ → Result Finished Refusal
done text = Ok (record { text = text; out = None })

pub returns : goal.returns
unfolding done
returns c =
    bind_ok _ _ _ c.in_ok-loaded.ensures.made
    ∙ ap (λ (r : CheckReport). Ok (told r)) (sym c.in_ok-loaded.ensures.report)
    ∙ ap done (sym c.in_ok-text.ensures)
