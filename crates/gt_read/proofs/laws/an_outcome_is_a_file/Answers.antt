use Rattle.gr_base.specs.declared.end.End.TheVariants as ends
use Rattle.gt_read.proofs.Outcomes.{outcome_file, outcome_fault}
use Rattle.gt_read.proofs.laws.an_outcome_is_a_file.Goals as goal

pub returns-clause-meant : goal.returns-clause-meant
returns-clause-meant c = outcome_file

pub returns-clause-fault : goal.returns-clause-fault
returns-clause-fault c = λ bytes fault. outcome_fault bytes (ends.Fault fault)
