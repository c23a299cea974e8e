use Rattle.asm_directives.specs.Directives.{IsAlignment}
use Rattle.asm_directives.proofs.Numbers.{kept_iff, wanted, wanted_none}
use Rattle.asm_directives.proofs.number.read_alignment.Goals as goal

pub returns-in-Some : goal.returns-in-Some
returns-in-Some c = wanted IsAlignment c.args.word.now c.in-Some.number c.kept.result c.in-Some.ensures (kept_iff (IsAlignment c.in-Some.number) c.in-Some.number c.is_alignment.result c.kept.result c.kept.ensures c.is_alignment.ensures)

pub returns-in-None : goal.returns-in-None
returns-in-None c = wanted_none IsAlignment c.args.word.now c.in-None.ensures
