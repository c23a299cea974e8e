use Rattle.pb_wire.proofs.Varints.{varint_again, varint_fails, varint_found, varint_failed}
use Rattle.pb_wire.proofs.Long.{varint_long}
use Rattle.pb_wire.proofs.laws.varints_are_read.Goals as goal

pub returns-clause-found : goal.returns-clause-found
returns-clause-found c = varint_again

pub returns-clause-refused : goal.returns-clause-refused
returns-clause-refused c = varint_fails

pub returns-clause-spelled : goal.returns-clause-spelled
returns-clause-spelled c = λ bytes value size fits e. varint_found bytes (value, size) fits e

pub returns-clause-fails : goal.returns-clause-fails
returns-clause-fails c = varint_failed

pub returns-clause-some : goal.returns-clause-some
returns-clause-some c = λ bytes value size e. varint_long 9 bytes (value, size) e
