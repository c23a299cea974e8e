use Rattle.asm_lines.proofs.DecidedLabels.{label}
use Rattle.asm_lines.proofs.laws.label_or_none.Goals as goal

pub returns : goal.returns
returns c = label
