use Rattle.a64_forms.specs.Spelling.{immediates}
use Rattle.a64_forms.proofs.reading.read_immediates.Goals as goal

pub returns-clause-some : goal.returns-clause-some
unfolding immediates
returns-clause-some c = c.read_among.ensures.some

pub returns-clause-none : goal.returns-clause-none
unfolding immediates
returns-clause-none c = c.read_among.ensures.none
