use Rattle.a64_filled.proofs.Naming.{filled_names}
use Rattle.a64_filled.proofs.filled_word_names_its_target.Goals as goal

pub returns : goal.returns
returns c = filled_names
