use Rattle.plain_steps.proofs.Each.{plain_step}
use Rattle.plain_steps.proofs.laws.what_is_plain_goes_on.Goals as goal

pub returns : goal.returns
returns c = plain_step
