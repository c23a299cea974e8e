use Rattle.jobs.proofs.Outcomes.{outcome_one, laid_text_one, patches_in_one}
use Rattle.jobs.proofs.laws.one_outcome.Goals as goal

pub returns : goal.returns
returns c =
    outcome_one c.one_meaning.ensures c.one_spelling.ensures.image c.image_or_fault.ensures.one
    (laid_text_one c.one_layout_or_fault.ensures.layout c.one_layout_or_fault.ensures.fault c.one_layout_or_fault.ensures.apart)
    (patches_in_one c.one_result.ensures)
