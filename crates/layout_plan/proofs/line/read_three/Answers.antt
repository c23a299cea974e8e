use Rattle.layout_plan.proofs.Lines.{three_no_place}
use Rattle.layout_plan.proofs.line.read_three.Goals as goal

pub returns-in_err-place-clause-none : goal.returns-in_err-place-clause-none
returns-in_err-place-clause-none c = three_no_place _ c.args.first.now c.args.second.now c.args.third.now (c.is_word.ensures.0 c.if-is_word.true) c.in_err-place.ensures.none
