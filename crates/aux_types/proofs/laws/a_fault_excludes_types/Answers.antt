use Rattle.aux_types.proofs.Standing.{excludes}
use Rattle.aux_types.proofs.laws.a_fault_excludes_types.Goals as goal

pub returns : goal.returns
returns c = excludes
