use Rattle.pb_wire.proofs.Front.{record_again, record_fails, record_found, record_failed}
use Rattle.pb_wire.proofs.Long.{record_long}
use Rattle.pb_wire.proofs.laws.records_are_read.Goals as goal

pub returns-clause-found : goal.returns-clause-found
returns-clause-found c = record_again

pub returns-clause-refused : goal.returns-clause-refused
returns-clause-refused c = record_fails

pub returns-clause-spelled : goal.returns-clause-spelled
returns-clause-spelled c =
    λ bytes place r size fits e.
    let f = record_found bytes place (r, size) fits e in
    (f.within, f.spelled, f.here)

pub returns-clause-fails : goal.returns-clause-fails
returns-clause-fails c = λ bytes place reason fits e. record_failed bytes place reason fits e

pub returns-clause-some : goal.returns-clause-some
returns-clause-some c = λ bytes place r size e. record_long bytes place (r, size) e
