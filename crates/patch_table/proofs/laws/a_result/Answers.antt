use Rattle.patch_table.proofs.Results.{some_given}
use Rattle.patch_table.proofs.laws.a_result.Goals as goal

pub returns : goal.returns
returns c = some_given c.one_split.ensures c.label_or_none.ensures c.number_or_none.ensures c.number_word_or_none.ensures c.words_or_none.ensures c.says_or_fault.ensures
