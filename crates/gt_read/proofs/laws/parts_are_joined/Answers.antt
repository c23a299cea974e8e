use Rattle.gt_read.proofs.Joined.{ir_joined}
use Rattle.gt_read.proofs.laws.parts_are_joined.Goals as goal

pub returns : goal.returns
returns c = ir_joined
