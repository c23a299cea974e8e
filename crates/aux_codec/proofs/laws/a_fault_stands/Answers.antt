use Rattle.aux_codec.proofs.Standing.{stands}
use Rattle.aux_codec.proofs.laws.a_fault_stands.Goals as goal

pub returns : goal.returns
returns c = stands
