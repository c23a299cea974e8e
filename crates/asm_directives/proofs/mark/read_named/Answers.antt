use Rattle.asm_directives.proofs.Marks.{no_set, set_said}
use Rattle.asm_directives.proofs.mark.read_named.Goals as goal

pub returns-in-Ok : goal.returns-in-Ok
returns-in-Ok c = set_said c.args.label.now c.args.number.now c.in-Ok.name c.in-Ok.ensures.found c.in-Ok.ensures.only c.set_line.result c.set_line.ensures

pub returns-in-Err-Fault : goal.returns-in-Err-Fault
returns-in-Err-Fault c = no_set c.args.label.now c.args.number.now c.in-Err-Fault.field-0 c.in-Err-Fault.field-0-is c.in-Err-Fault.ensures.only
