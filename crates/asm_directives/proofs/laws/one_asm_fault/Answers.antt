use Rattle.asm_directives.proofs.Unique as unique
use Rattle.asm_directives.proofs.laws.one_asm_fault.Goals as goal

pub returns : goal.returns
returns c = unique.one_asm_fault c.one_split.ensures c.form_begins.ensures c.said_without_fault.ensures
