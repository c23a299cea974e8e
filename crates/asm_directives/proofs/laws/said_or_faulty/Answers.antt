use Rattle.asm_directives.proofs.Unique as unique
use Rattle.asm_directives.proofs.laws.said_or_faulty.Goals as goal

pub returns : goal.returns
returns c = unique.not_both c.one_split.ensures c.form_begins.ensures c.said_without_fault.ensures
