use Rattle.std.proofs.Common.{Err, ap, inl, refl}
use Rattle.asm_directives.proofs.Values.{none_of}
use Rattle.asm_directives.proofs.value.read_quad.Goals as goal

pub returns-in-Ok : goal.returns-in-Ok
returns-in-Ok c = inl (c.in-Ok.e, c.in-Ok.ensures.found, refl)

pub read_no_address-requires-clause-none : goal.read_no_address-requires-clause-none
read_no_address-requires-clause-none c = none_of c.args.text.now c.in-Err-Fault.field-0 c.in-Err-Fault.field-0-is c.in-Err-Fault.ensures.only

pub read_no_address-requires-clause-tells : goal.read_no_address-requires-clause-tells
read_no_address-requires-clause-tells c = c.in-Err-Fault.ensures.reason c.in-Err-Fault.reason (ap Err c.in-Err-Fault.field-0-is)
