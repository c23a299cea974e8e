use Rattle.std.proofs.Common.{inl, inr, refl}
use Rattle.patch_table.proofs.Sayings.{no_label}
use Rattle.patch_table.proofs.own.read_function.Goals as goal

pub returns-in-Ok-clause-says : goal.returns-in-Ok-clause-says
returns-in-Ok-clause-says c = inl (c.in-Ok.label, c.in-Ok.ensures.found, c.function_line.ensures.value)

pub returns-in-Err-Fault-clause-says : goal.returns-in-Err-Fault-clause-says
returns-in-Err-Fault-clause-says c = inr (no_label c.args.word.now c.in-Err-Fault.field-0 c.in-Err-Fault.field-0-is c.in-Err-Fault.ensures.only, refl)

pub returns-in-Ok-clause-typed : goal.returns-in-Ok-clause-typed
returns-in-Ok-clause-typed c = c.function_line.ensures.typed c.in-Ok.ensures.found.utf8
