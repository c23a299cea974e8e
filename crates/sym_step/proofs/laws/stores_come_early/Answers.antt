use Rattle.sym_step.proofs.Order.{early}
use Rattle.sym_step.proofs.laws.stores_come_early.Goals as goal

pub returns : goal.returns
returns c = early
