use Rattle.a64_forms.specs.Spelling.{registers}
use Rattle.asm_spelling.proofs.by_table.register_texts.Goals as goal

pub returns : goal.returns
unfolding registers
returns c = c.first_written.ensures
