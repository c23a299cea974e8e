use Rattle.plain_steps.proofs.Quiet.{step_goes_on}
use Rattle.plain_steps.proofs.laws.what_asks_nothing_goes_on.Goals as goal

pub returns : goal.returns
returns c = step_goes_on
