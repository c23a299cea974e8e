use Rattle.a64_forms.specs.Spelling.{branches}
use Rattle.asm_spelling.proofs.by_table.branch_texts.Goals as goal

pub returns : goal.returns
unfolding branches
returns c = c.first_written.ensures
