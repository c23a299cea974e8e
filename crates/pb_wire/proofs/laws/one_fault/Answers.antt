use Rattle.pb_wire.proofs.Lists.{one_fault}
use Rattle.pb_wire.proofs.laws.one_fault.Goals as goal

pub returns : goal.returns
returns c = one_fault
