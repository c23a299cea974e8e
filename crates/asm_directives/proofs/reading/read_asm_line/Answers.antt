use Rattle.asm_directives.proofs.Readings.{no_words}
use Rattle.asm_directives.proofs.reading.read_asm_line.Goals as goal

pub returns-in-Err-Fault : goal.returns-in-Err-Fault
returns-in-Err-Fault c = no_words c.args.line.now c.in-Err-Fault.field-0 c.in-Err-Fault.field-0-is c.in-Err-Fault.ensures.only
