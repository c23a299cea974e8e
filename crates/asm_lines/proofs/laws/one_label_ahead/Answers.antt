use Rattle.asm_lines.proofs.Unique as unique
use Rattle.asm_lines.proofs.laws.one_label_ahead.Goals as goal

pub returns : goal.returns
returns c = unique.one_label_ahead
