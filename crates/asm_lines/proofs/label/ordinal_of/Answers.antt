use Rattle.asm_lines.proofs.Fronts.{no_ordinal, ordinal_number}
use Rattle.asm_lines.proofs.Runs.{fails}
use Rattle.asm_lines.proofs.label.ordinal_of.Goals as goal

pub returns-then-begins_zero : goal.returns-then-begins_zero
returns-then-begins_zero c = no_ordinal c.args.digits.now (c.begins_zero.ensures.0 c.if-begins_zero.true)

pub returns : goal.returns
returns c = ordinal_number c.args.digits.now c.read_number.result (fails c.begins_zero.result c.begins_zero.ensures c.if-begins_zero.false) c.read_number.ensures
