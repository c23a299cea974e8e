use Rattle.printed_lines.proofs.Taken.{same_fit}
use Rattle.printed_lines.proofs.laws.open_words_take_the_same.Goals as goal

pub returns : goal.returns
returns c = same_fit
