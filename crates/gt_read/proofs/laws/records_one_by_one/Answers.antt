use Rattle.gt_read.proofs.Walks.{walk_takes}
use Rattle.gt_read.proofs.laws.records_one_by_one.Goals as goal

pub returns : goal.returns
returns c = walk_takes (record { found = c.records_are_read.ensures.found; refused = c.records_are_read.ensures.refused; some = c.records_are_read.ensures.some })
