use Rattle.gt_read.proofs.ListWalks.{of_list, of_fault}
use Rattle.gt_read.proofs.laws.pieces_are_the_records.Goals as goal

pub returns-clause-list : goal.returns-clause-list
returns-clause-list c = of_list (record { found = c.records_are_read.ensures.found; refused = c.records_are_read.ensures.refused; some = c.records_are_read.ensures.some })

pub returns-clause-fault : goal.returns-clause-fault
returns-clause-fault c = of_fault (record { found = c.records_are_read.ensures.found; refused = c.records_are_read.ensures.refused; some = c.records_are_read.ensures.some })
