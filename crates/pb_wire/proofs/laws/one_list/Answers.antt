use Rattle.pb_wire.proofs.Lists.{one_list}
use Rattle.pb_wire.proofs.laws.one_list.Goals as goal

pub returns : goal.returns
returns c = one_list
