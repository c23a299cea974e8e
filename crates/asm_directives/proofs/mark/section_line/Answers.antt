use Rattle.std.proofs.Common.{refl}
use Rattle.asm_directives.proofs.Marks.{ordinal_refused}
use Rattle.asm_directives.proofs.mark.section_line.Goals as goal

pub returns-in-Some : goal.returns-in-Some
returns-in-Some c = ordinal_refused c.args.label c.in-Some.field-0 c.in-Some.is
