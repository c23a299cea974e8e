use Rattle.pb_wire.proofs.Shortest.{shortest_is_least}
use Rattle.pb_wire.proofs.laws.no_varint_is_shorter.Goals as goal

pub returns : goal.returns
returns c = shortest_is_least
