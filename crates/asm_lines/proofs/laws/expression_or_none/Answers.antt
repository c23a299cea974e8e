use Rattle.asm_lines.proofs.DecidedExpressions.{expression}
use Rattle.asm_lines.proofs.laws.expression_or_none.Goals as goal

pub returns : goal.returns
returns c = expression
