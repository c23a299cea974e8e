use Rattle.layout_plan.proofs.Accepting.{accepted_without_fault, no_fault_where_accepted}
use Rattle.layout_plan.proofs.laws.accepted_without_fault.Goals as goal

pub returns : goal.returns
returns c = λ layout shape shaped stack. (accepted_without_fault layout shape shaped stack, no_fault_where_accepted layout shape)
