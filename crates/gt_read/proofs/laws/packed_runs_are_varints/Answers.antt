use Rattle.gt_read.proofs.PackedLists.{of_list, of_fault, first}
use Rattle.gt_read.proofs.laws.packed_runs_are_varints.Goals as goal

pub returns-clause-list : goal.returns-clause-list
returns-clause-list c = of_list c.varints_are_read.ensures.some c.varints_are_read.ensures.found

pub returns-clause-fault : goal.returns-clause-fault
returns-clause-fault c = of_fault c.varints_are_read.ensures.some c.varints_are_read.ensures.found c.varints_are_read.ensures.refused

pub returns-clause-first : goal.returns-clause-first
returns-clause-first c = first c.varints_are_read.ensures.some c.varints_are_read.ensures.found
