use Rattle.gt_read.proofs.OneMeaning.{one_meaning}
use Rattle.gt_read.proofs.laws.one_meaning.Goals as goal

pub returns : goal.returns
returns c = one_meaning c.one_value.ensures
