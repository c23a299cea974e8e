use Rattle.asm_directives.proofs.Numbers.{both_words}
use Rattle.asm_directives.proofs.number.numbers_reason.Goals as goal

pub returns-then-is_number_word : goal.returns-then-is_number_word
returns-then-is_number_word c = both_words c.args.first.now c.args.second.now c.is_number_word.result c.number_reason.result c.is_number_word.ensures c.if-is_number_word.true c.number_reason.ensures
