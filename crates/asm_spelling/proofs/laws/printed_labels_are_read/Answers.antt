use Rattle.asm_spelling.proofs.Labelled.{label_is}
use Rattle.asm_spelling.proofs.laws.printed_labels_are_read.Goals as goal

pub returns : goal.returns
returns c = label_is
