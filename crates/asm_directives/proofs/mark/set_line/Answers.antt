use Rattle.std.proofs.Common.{refl}
use Rattle.asm_directives.proofs.Marks.{set_refused}
use Rattle.asm_directives.proofs.mark.set_line.Goals as goal

pub returns-in-Some : goal.returns-in-Some
returns-in-Some c = (c.in-Some.value, (c.in-Some.ensures c.in-Some.value).0 refl, refl)

pub returns-in-None : goal.returns-in-None
returns-in-None c = set_refused c.args.name c.args.number.now c.number_reason.result c.in-None.ensures c.number_reason.ensures
