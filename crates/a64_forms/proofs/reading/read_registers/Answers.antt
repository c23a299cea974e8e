use Rattle.a64_forms.specs.Spelling.{registers}
use Rattle.a64_forms.proofs.reading.read_registers.Goals as goal

pub returns-clause-some : goal.returns-clause-some
unfolding registers
returns-clause-some c = c.read_among.ensures.some

pub returns-clause-none : goal.returns-clause-none
unfolding registers
returns-clause-none c = c.read_among.ensures.none
