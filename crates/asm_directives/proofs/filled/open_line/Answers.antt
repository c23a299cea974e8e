use Rattle.asm_directives.proofs.Instants.{open_found, open_refused}
use Rattle.asm_directives.proofs.filled.open_line.Goals as goal

pub returns-in-Some : goal.returns-in-Some
returns-in-Some c = open_found c.args.number.now c.args.e c.in-Some.word c.in-Some.ensures

pub returns-in-None : goal.returns-in-None
returns-in-None c = open_refused c.args.number.now c.args.e c.number_reason.result c.in-None.ensures c.number_reason.ensures
