use Rattle.asm_directives.proofs.Marks.{no_comma_set, set_of}
use Rattle.asm_directives.proofs.mark.read_set.Goals as goal

pub returns-in-Some : goal.returns-in-Some
returns-in-Some c = set_of c.args.first.now c.args.second.now c.in-Some.label.now c.read_named.result c.in-Some.ensures c.read_named.ensures

pub returns-in-None : goal.returns-in-None
returns-in-None c = no_comma_set c.args.first.now c.args.second.now c.in-None.ensures
