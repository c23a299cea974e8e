use Rattle.std.proofs.Common.{arith}
use Rattle.pb_wire.proofs.Front.{AreBytes, are_bytes}
use Rattle.pb_wire.proofs.Lasting.{whole_is, short_is, fault_is, fault_lasts}
use Rattle.pb_wire.proofs.scanning.scan.Goals as goal
use Rattle.pb_wire.proofs.scanning.scan.Goals.{After-front}

bytes_fit : (c : After-front) → AreBytes c.args.bytes.now
bytes_fit c = are_bytes c.args.bytes.now (λ i. omega (arith, c.type_inv.bytes i))

pub returns-clause-whole : goal.returns-clause-whole
returns-clause-whole c = whole_is c.args.bytes.now c.args.base c.front.result (bytes_fit c) c.front.ensures

pub returns-clause-short : goal.returns-clause-short
returns-clause-short c = short_is c.args.bytes.now c.args.base c.front.result (bytes_fit c) c.front.ensures

pub returns-clause-fault : goal.returns-clause-fault
returns-clause-fault c = fault_is c.args.bytes.now c.args.base c.front.result (bytes_fit c) c.front.ensures

pub returns-clause-lasts : goal.returns-clause-lasts
returns-clause-lasts c = fault_lasts c.args.bytes.now c.args.base c.front.result (bytes_fit c) c.front.ensures
