use Rattle.asm_lines.proofs.Unique as unique
use Rattle.asm_lines.proofs.laws.one_saying.Goals as goal

pub returns : goal.returns
returns c = unique.one_saying c.one_split.ensures c.form_begins.ensures c.one_form.ensures c.one_number.ensures
