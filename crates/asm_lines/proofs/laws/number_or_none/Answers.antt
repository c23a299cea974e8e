use Rattle.asm_lines.proofs.DecidedNumbers.{number_decided}
use Rattle.asm_lines.proofs.laws.number_or_none.Goals as goal

pub returns : goal.returns
returns c = number_decided
