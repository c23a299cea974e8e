use Rattle.asm_spelling.proofs.Instructions.{named_word, plain_word}
use Rattle.asm_spelling.proofs.laws.printed_words_are_read.Goals as goal

pub returns-clause-plain : goal.returns-clause-plain
returns-clause-plain c = plain_word

pub returns-clause-named : goal.returns-clause-named
returns-clause-named c = named_word
