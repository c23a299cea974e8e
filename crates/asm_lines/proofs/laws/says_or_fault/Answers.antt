use Rattle.asm_lines.proofs.DecidedLines as lines
use Rattle.asm_lines.proofs.laws.says_or_fault.Goals as goal

pub returns : goal.returns
returns c = lines.says_or_fault
