use Rattle.a64_forms.specs.Spelling.{accesses}
use Rattle.asm_spelling.proofs.by_table.access_texts.Goals as goal

pub returns : goal.returns
unfolding accesses
returns c = c.first_written.ensures
