use Rattle.aux_codec.proofs.Standing.{excludes}
use Rattle.aux_codec.proofs.laws.a_fault_excludes_values.Goals as goal

pub returns : goal.returns
returns c = excludes
