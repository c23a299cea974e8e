use Rattle.a64_forms.specs.Spelling.{pairs}
use Rattle.a64_forms.proofs.reading.read_pairs.Goals as goal

pub returns-clause-some : goal.returns-clause-some
unfolding pairs
returns-clause-some c = c.read_among.ensures.some

pub returns-clause-none : goal.returns-clause-none
unfolding pairs
returns-clause-none c = c.read_among.ensures.none
