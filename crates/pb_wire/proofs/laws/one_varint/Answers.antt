use Rattle.pb_wire.proofs.Varints.{same_varint}
use Rattle.pb_wire.proofs.laws.one_varint.Goals as goal

pub returns : goal.returns
returns c = same_varint
