use Rattle.a64_inst.proofs.RowLaws.{row-word_of}
use Rattle.a64_inst.proofs.laws.word_is_read.Goals as goal

pub returns : goal.returns
returns c = row-word_of
