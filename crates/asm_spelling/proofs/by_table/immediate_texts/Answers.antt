use Rattle.a64_forms.specs.Spelling.{immediates}
use Rattle.asm_spelling.proofs.by_table.immediate_texts.Goals as goal

pub returns : goal.returns
unfolding immediates
returns c = c.first_written.ensures
