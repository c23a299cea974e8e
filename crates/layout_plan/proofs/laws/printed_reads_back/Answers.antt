use Rattle.layout_plan.proofs.Printed.{reads_back}
use Rattle.layout_plan.proofs.laws.printed_reads_back.Goals as goal

pub returns : goal.returns
returns c = reads_back
