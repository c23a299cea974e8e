use Rattle.pb_wire.proofs.Varints.{varint_below}
use Rattle.pb_wire.proofs.laws.varint_fits.Goals as goal

pub returns : goal.returns
returns c = varint_below
