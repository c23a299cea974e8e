use Rattle.printed_lines.proofs.Instructions.{named_word_is, plain_word_is}
use Rattle.printed_lines.proofs.laws.printed_words_are_lines.Goals as goal

pub returns-clause-plain : goal.returns-clause-plain
returns-clause-plain c = plain_word_is c.printed_words_are_read.ensures.plain

pub returns-clause-named : goal.returns-clause-named
returns-clause-named c = named_word_is c.printed_labels_are_read.ensures c.printed_words_are_read.ensures.named
