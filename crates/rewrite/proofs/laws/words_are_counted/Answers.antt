use Rattle.rewrite.proofs.Counted.{counted}
use Rattle.rewrite.proofs.laws.words_are_counted.Goals as goal

pub returns : goal.returns
returns c = counted
