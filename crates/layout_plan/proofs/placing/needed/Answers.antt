use Rattle.layout_plan.proofs.Alignments.{four_is}
use Rattle.layout_plan.proofs.placing.needed.Goals as goal

pub returns-in-Code-clause-alignment : goal.returns-in-Code-clause-alignment
returns-in-Code-clause-alignment c = four_is
