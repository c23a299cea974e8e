use Rattle.layout_plan.proofs.Lines.{no_place}
use Rattle.layout_plan.proofs.line.read_place.Goals as goal

pub returns-in_err-read_number-clause-none : goal.returns-in_err-read_number-clause-none
returns-in_err-read_number-clause-none c = no_place _ c.args.interval.now c.args.at.now c.read_number.result c.read_number.ensures c.in_err-read_number.was
