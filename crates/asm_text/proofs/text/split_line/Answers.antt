use Rattle.std.proofs.Common.{sym, arith}
use Rattle.std.proofs.lemmas.Grind.{common_steps}
use Rattle.asm_text.proofs.Ends.{first_line, one_line}
use Rattle.asm_text.proofs.text.split_line.Goals as goal

pub returns-in-Some-clause-line : goal.returns-in-Some-clause-line
returns-in-Some-clause-line c = let first = first_line c.args.text.now c.in-Some.end (sym c.in-Some.ensures) in grind (arith, common_steps)

pub returns-in-None-clause-line : goal.returns-in-None-clause-line
returns-in-None-clause-line c = one_line c.args.text.now c.requires (sym c.in-None.ensures)
