use Rattle.std.proofs.Common.{arith}
use Rattle.pb_wire.proofs.Front.{AreBytes, are_bytes}
use Rattle.pb_wire.proofs.Varints.{varint_spelled, varint_missed}
use Rattle.pb_wire.proofs.reading.read_varint.Goals as goal

pub returns-clause-spelled : goal.returns-clause-spelled
returns-clause-spelled c =
    let fit : AreBytes c.args.bytes.now = are_bytes c.args.bytes.now (λ i. omega (arith, c.type_inv.bytes i)) in
    varint_spelled c.args.bytes.now c.read_groups.result fit c.read_groups.ensures.value

pub returns-clause-fails : goal.returns-clause-fails
returns-clause-fails c = varint_missed c.args.bytes.now c.read_groups.result c.read_groups.ensures.value
