use Rattle.std.proofs.Common.{refl, ap, Err}
use Rattle.jobs.proofs.stages.image_in.Goals as goal

pub returns-in-Err-Fault-clause-stage : goal.returns-in-Err-Fault-clause-stage
returns-in-Err-Fault-clause-stage c =
    let found = c.in-Err-Fault.ensures.fault c.in-Err-Fault.fault.place (ap Err c.in-Err-Fault.field-0-is) in
    (_, refl, found, λ image spelled. c.image_or_fault.ensures.apart _ image _ spelled found)
