use Rattle.std.proofs.Common.{inl, inr, refl, sym}
use Rattle.asm_directives.proofs.reading.read_directive.Goals as goal

pub returns-in-Some : goal.returns-in-Some
returns-in-Some c = inr (c.in-Some.directive, sym c.in-Some.ensures, c.read_operands.ensures)

pub returns-in-None : goal.returns-in-None
returns-in-None c = inl (sym c.in-None.ensures, refl)
