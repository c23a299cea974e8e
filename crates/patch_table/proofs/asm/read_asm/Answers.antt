use Rattle.std.proofs.Common.{Err, ap, inl, inr}
use Rattle.patch_table.proofs.asm.read_asm.Goals as goal

pub returns-in-Ok-clause-says : goal.returns-in-Ok-clause-says
returns-in-Ok-clause-says c = inl (c.in-Ok.said, c.in-Ok.ensures.found, c.line_of.ensures.value)

pub read_faulty-requires-clause-fault : goal.read_faulty-requires-clause-fault
read_faulty-requires-clause-fault c = c.in-Err-Fault.ensures.reason c.in-Err-Fault.reason (ap Err c.in-Err-Fault.field-0-is)

pub returns-in-Ok-clause-typed : goal.returns-in-Ok-clause-typed
returns-in-Ok-clause-typed c = c.line_of.ensures.typed c.args.line.now c.in-Ok.ensures.found
