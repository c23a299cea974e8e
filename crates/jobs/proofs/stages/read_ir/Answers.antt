use Rattle.std.proofs.Common.{refl}
use Rattle.jobs.proofs.stages.read_ir.Goals as goal

pub returns-in-Err-Fault-clause-stage : goal.returns-in-Err-Fault-clause-stage
returns-in-Err-Fault-clause-stage c =
    let found = rw c.in-Err-Fault.field-0-is at c.in-Err-Fault.ensures.fault in
    (_, refl, found, λ ir. c.a_file_has_no_fault.ensures.excluded _ _ ir found)
