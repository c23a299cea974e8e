use Rattle.std.proofs.Common.{subst}
use Rattle.asm_lines.specs.declared.line.AsmLine.{AsmLine}
use Rattle.asm_lines.specs.Lines.{IsLine}
use Rattle.patch_table.proofs.Typed.{label_utf8}
use Rattle.patch_table.proofs.asm.line_of.Goals as goal

pub returns-in-Label-clause-typed : goal.returns-in-Label-clause-typed
returns-in-Label-clause-typed c = λ line is. c.label_line.ensures.typed (label_utf8 line c.in-Label.label (subst (λ (s : AsmLine). IsLine line s) c.in-Label.is is))
