use Rattle.a64_forms.specs.Spelling.{indexed}
use Rattle.a64_forms.proofs.reading.read_indexed.Goals as goal

pub returns-clause-some : goal.returns-clause-some
unfolding indexed
returns-clause-some c = c.read_among.ensures.some

pub returns-clause-none : goal.returns-clause-none
unfolding indexed
returns-clause-none c = c.read_among.ensures.none
