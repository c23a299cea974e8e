use Rattle.layout_plan.proofs.Defaults.{default_accepted}
use Rattle.layout_plan.proofs.laws.default_is_accepted.Goals as goal

pub returns : goal.returns
returns c = default_accepted
