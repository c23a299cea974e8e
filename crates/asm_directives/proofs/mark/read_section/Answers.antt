use Rattle.asm_directives.proofs.Marks.{no_section, section_said}
use Rattle.asm_directives.proofs.mark.read_section.Goals as goal

pub returns-in-Ok : goal.returns-in-Ok
returns-in-Ok c = section_said c.args.text.now c.in-Ok.label c.in-Ok.ensures.found c.in-Ok.ensures.only c.section_line.result c.section_line.ensures

pub returns-in-Err-Fault : goal.returns-in-Err-Fault
returns-in-Err-Fault c = no_section c.args.text.now c.in-Err-Fault.field-0 c.in-Err-Fault.field-0-is c.in-Err-Fault.ensures.only
