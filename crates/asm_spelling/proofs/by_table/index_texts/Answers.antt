use Rattle.a64_forms.specs.Spelling.{indexed}
use Rattle.asm_spelling.proofs.by_table.index_texts.Goals as goal

pub returns : goal.returns
unfolding indexed
returns c = c.first_written.ensures
