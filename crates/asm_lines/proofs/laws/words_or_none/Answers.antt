use Rattle.asm_lines.proofs.DecidedWords.{words_decided}
use Rattle.asm_lines.proofs.laws.words_or_none.Goals as goal

pub returns : goal.returns
returns c = words_decided
