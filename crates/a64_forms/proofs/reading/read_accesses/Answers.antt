use Rattle.a64_forms.specs.Spelling.{accesses}
use Rattle.a64_forms.proofs.reading.read_accesses.Goals as goal

pub returns-clause-some : goal.returns-clause-some
unfolding accesses
returns-clause-some c = c.read_among.ensures.some

pub returns-clause-none : goal.returns-clause-none
unfolding accesses
returns-clause-none c = c.read_among.ensures.none
