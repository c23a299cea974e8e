use Rattle.asm_lines.proofs.Unique as unique
use Rattle.asm_lines.proofs.laws.one_expression.Goals as goal

pub returns : goal.returns
returns c = unique.one_expression c.one_number.ensures
