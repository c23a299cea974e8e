use Rattle.a64_filled.proofs.Taking.{operand_takes}
use Rattle.a64_filled.proofs.operand_is_of_its_row.Goals as goal

pub returns : goal.returns
returns c = operand_takes
