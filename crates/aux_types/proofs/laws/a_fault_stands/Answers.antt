use Rattle.aux_types.proofs.Standing.{stands}
use Rattle.aux_types.proofs.laws.a_fault_stands.Goals as goal

pub returns : goal.returns
returns c = stands
