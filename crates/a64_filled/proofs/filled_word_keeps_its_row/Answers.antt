use Rattle.a64_filled.proofs.Fitted.{filled_keeps}
use Rattle.a64_filled.proofs.filled_word_keeps_its_row.Goals as goal

pub returns : goal.returns
returns c = filled_keeps
