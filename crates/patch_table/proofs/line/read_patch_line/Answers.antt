use Rattle.patch_table.proofs.Sayings.{no_words_line}
use Rattle.patch_table.proofs.line.read_patch_line.Goals as goal

pub returns-in-Err-Fault-clause-says : goal.returns-in-Err-Fault-clause-says
returns-in-Err-Fault-clause-says c = no_words_line c.args.line.now c.in-Err-Fault.field-0 c.in-Err-Fault.field-0-is c.in-Err-Fault.ensures.only
