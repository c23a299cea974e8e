use Rattle.asm_lines.proofs.DecidedExpressions.{expression_shape}
use Rattle.asm_lines.proofs.laws.expression_shape_or_none.Goals as goal

pub returns : goal.returns
returns c = expression_shape
