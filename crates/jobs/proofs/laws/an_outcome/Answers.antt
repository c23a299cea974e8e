use Rattle.jobs.proofs.LayoutTexts.{layout_or_fault}
use Rattle.jobs.proofs.Outcomes.{outcome_some, laid_text_some, patches_in_some}
use Rattle.jobs.proofs.laws.an_outcome.Goals as goal

pub returns : goal.returns
returns c =
    outcome_some c.no_fault_is_a_file.ensures c.a_file_has_no_fault.ensures.excluded c.image_or_fault.ensures.some c.image_or_fault.ensures.apart
    (laid_text_some (layout_or_fault c.one_split.ensures c.one_saying.ensures))
    (patches_in_some c.a_result.ensures)
