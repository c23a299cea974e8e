use Rattle.asm_directives.proofs.Unique as unique
use Rattle.asm_directives.proofs.laws.one_asm_saying.Goals as goal

pub returns : goal.returns
returns c = unique.one_asm_saying c.one_number.ensures c.one_label.ensures c.one_expression.ensures c.one_label_ahead.ensures c.one_split.ensures c.form_begins.ensures c.said_without_fault.ensures c.one_saying.ensures
