use Rattle.taken_ids.proofs.Free.{free_without_fault}
use Rattle.taken_ids.proofs.laws.free_without_fault.Goals as goal

pub returns : goal.returns
returns c = free_without_fault
