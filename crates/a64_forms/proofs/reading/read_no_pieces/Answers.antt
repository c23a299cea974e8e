use Rattle.a64_forms.proofs.Lists.{empty_pieces, no_empty_pieces}
use Rattle.a64_forms.proofs.reading.read_no_pieces.Goals as goal

pub returns-in-empty-clause-some : goal.returns-in-empty-clause-some
returns-in-empty-clause-some c = empty_pieces c.args.numbers c.args.texts.now c.in-empty.len_below

pub returns-in_default-clause-none : goal.returns-in_default-clause-none
returns-in_default-clause-none c = no_empty_pieces c.args.numbers c.args.texts.now c.in_default.len_at_least
