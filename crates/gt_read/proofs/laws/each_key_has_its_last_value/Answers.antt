use Rattle.gt_read.proofs.Ascending.{map_ascends}
use Rattle.gt_read.proofs.KeyOrders.{last_entry, no_entry}
use Rattle.gt_read.proofs.laws.each_key_has_its_last_value.Goals as goal

pub returns-clause-order : goal.returns-clause-order
returns-clause-order c = λ k rows es. map_ascends k es

pub returns-clause-last : goal.returns-clause-last
returns-clause-last c = last_entry

pub returns-clause-none : goal.returns-clause-none
returns-clause-none c = no_entry
