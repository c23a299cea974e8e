use Rattle.asm_directives.proofs.Values.{narrow_plain, narrow_quarter}
use Rattle.asm_directives.proofs.value.read_narrow.Goals as goal

pub returns-in-Some : goal.returns-in-Some
returns-in-Some c = narrow_quarter c.args.size c.args.text.now c.in-Some.inside.now c.read_entry.result c.in-Some.ensures c.read_entry.ensures

pub returns-in-None : goal.returns-in-None
returns-in-None c = narrow_plain c.args.size c.args.text.now c.read_entry-in-None.result c.in-None.ensures c.read_entry-in-None.ensures
