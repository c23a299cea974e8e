use Rattle.layout_plan.proofs.Sayings.{one_saying}
use Rattle.layout_plan.proofs.laws.one_saying.Goals as goal

pub returns : goal.returns
returns c = one_saying c.one_number.ensures c.one_split.ensures
