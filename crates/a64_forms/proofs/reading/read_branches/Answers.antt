use Rattle.a64_forms.specs.Spelling.{branches}
use Rattle.a64_forms.proofs.reading.read_branches.Goals as goal

pub returns-clause-some : goal.returns-clause-some
unfolding branches
returns-clause-some c = c.read_among.ensures.some

pub returns-clause-none : goal.returns-clause-none
unfolding branches
returns-clause-none c = c.read_among.ensures.none
