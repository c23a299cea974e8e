use Rattle.asm_read.proofs.Splitting.{one_list}
use Rattle.asm_read.proofs.laws.one_split.Goals as goal

pub returns : goal.returns
returns c = one_list
