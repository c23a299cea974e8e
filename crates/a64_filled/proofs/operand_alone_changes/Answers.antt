use Rattle.a64_filled.proofs.Each.{operand_changes}
use Rattle.a64_filled.proofs.operand_alone_changes.Goals as goal

pub returns : goal.returns
returns c = operand_changes
