use Rattle.pb_wire.proofs.Shortest.{shortest_is}
use Rattle.pb_wire.proofs.laws.shortest_is_varint.Goals as goal

pub returns : goal.returns
returns c = shortest_is
