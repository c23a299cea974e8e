use Rattle.aux_codec.proofs.Whole.{one_value}
use Rattle.aux_codec.proofs.laws.one_spelling.Goals as goal

pub returns-clause-value : goal.returns-clause-value
returns-clause-value c = one_value
