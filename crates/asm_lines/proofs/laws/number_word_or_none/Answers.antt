use Rattle.asm_lines.proofs.DecidedNumbers.{number_word}
use Rattle.asm_lines.proofs.laws.number_word_or_none.Goals as goal

pub returns : goal.returns
returns c = number_word
