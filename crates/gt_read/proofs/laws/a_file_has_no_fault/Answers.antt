use Rattle.gt_read.proofs.OneMeaning.{no_fault, fault_excludes}
use Rattle.gt_read.proofs.laws.a_file_has_no_fault.Goals as goal

pub returns-clause-none : goal.returns-clause-none
returns-clause-none c = no_fault

pub returns-clause-excluded : goal.returns-clause-excluded
returns-clause-excluded c = fault_excludes
