use Rattle.asm_lines.proofs.Sayings.{one_line_fault}
use Rattle.asm_lines.proofs.laws.one_fault.Goals as goal

pub returns : goal.returns
returns c = one_line_fault c.one_split.ensures c.form_begins.ensures
