use Rattle.a64_inst.proofs.RowLaws.{word_of-row}
use Rattle.a64_inst.proofs.laws.read_is_word.Goals as goal

pub returns : goal.returns
returns c = word_of-row
