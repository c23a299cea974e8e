use Rattle.a64_forms.specs.Spelling.{pairs}
use Rattle.asm_spelling.proofs.by_table.pair_texts.Goals as goal

pub returns : goal.returns
unfolding pairs
returns c = c.first_written.ensures
