use Rattle.a64_forms.proofs.Immediates.{no_number_as}
use Rattle.a64_forms.proofs.piece.number_as.Goals as goal

pub returns-in-Any-2-clause-none : goal.returns-in-Any-2-clause-none
returns-in-Any-2-clause-none c = no_number_as c.args.numbers c.args.operand c.args.text.now c.is_number_in.result c.in-Any-2.is c.if-is_number_in.false c.is_number_in.ensures
