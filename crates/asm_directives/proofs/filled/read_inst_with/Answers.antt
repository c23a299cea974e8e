use Rattle.asm_directives.proofs.Instants.{filled_of, no_comma_word}
use Rattle.asm_directives.proofs.filled.read_inst_with.Goals as goal

pub returns-in-Some : goal.returns-in-Some
returns-in-Some c = filled_of c.args.first.now c.args.second.now c.in-Some.number.now c.read_parts.result c.in-Some.ensures c.read_parts.ensures

pub returns-in-None : goal.returns-in-None
returns-in-None c = no_comma_word c.args.first.now c.args.second.now c.in-None.ensures
