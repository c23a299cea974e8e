use Rattle.asm_directives.specs.Directives.{IsResidue}
use Rattle.asm_directives.proofs.Numbers.{kept_iff, wanted, wanted_none}
use Rattle.asm_directives.proofs.number.read_residue.Goals as goal

pub returns-in-Some : goal.returns-in-Some
returns-in-Some c = wanted (IsResidue c.args.align) c.args.word.now c.in-Some.number c.kept.result c.in-Some.ensures (kept_iff (IsResidue c.args.align c.in-Some.number) c.in-Some.number c.is_residue.result c.kept.result c.kept.ensures c.is_residue.ensures)

pub returns-in-None : goal.returns-in-None
returns-in-None c = wanted_none (IsResidue c.args.align) c.args.word.now c.in-None.ensures
