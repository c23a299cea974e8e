use Rattle.asm_lines.proofs.Sayings.{not_both}
use Rattle.asm_lines.proofs.laws.said_without_fault.Goals as goal

pub returns : goal.returns
returns c = not_both c.one_split.ensures c.form_begins.ensures
