use Rattle.asm_lines.proofs.Unique as unique
use Rattle.asm_lines.proofs.laws.one_label.Goals as goal

pub returns : goal.returns
returns c = unique.one_label
