use Rattle.simulation.proofs.Runs.{starts_agree}
use Rattle.simulation.proofs.laws.starts_agree.Goals as goal

pub returns : goal.returns
returns c = starts_agree
