use Rattle.a64_forms.proofs.Immediates.{minus_in, neither_in, plus_in}
use Rattle.a64_forms.proofs.piece.is_number_in.Goals as goal

pub returns-in-Some : goal.returns-in-Some
returns-in-Some c = minus_in c.args.operand c.args.text.now c.in-Some.digits.now c.is_negative_in.result c.in-Some.ensures c.is_negative_in.ensures

pub returns-in-Some-behind : goal.returns-in-Some-behind
returns-in-Some-behind c = plus_in c.args.operand c.args.text.now c.in-Some-behind.digits.now c.is_number_word.result c.in-None.ensures c.in-Some-behind.ensures c.is_number_word.ensures

pub returns-in-None-behind : goal.returns-in-None-behind
returns-in-None-behind c = neither_in c.args.operand c.args.text.now c.in-None.ensures c.in-None-behind.ensures
