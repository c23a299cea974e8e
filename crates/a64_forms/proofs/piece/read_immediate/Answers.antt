use Rattle.a64_forms.proofs.Immediates.{minus_reads, plus_reads}
use Rattle.a64_forms.proofs.piece.read_immediate.Goals as goal

pub returns-in-Some : goal.returns-in-Some
returns-in-Some c = minus_reads c.args.text.now c.in-Some.digits.now c.read_negative.result c.in-Some.ensures c.read_negative.ensures

pub returns-in-Some-behind : goal.returns-in-Some-behind
returns-in-Some-behind c = plus_reads c.args.text.now c.in-Some-behind.digits.now c.read_positive.result c.in-None.ensures c.in-Some-behind.ensures c.read_positive.ensures
