use Rattle.gt_read.proofs.NoFault.{sound_file}
use Rattle.gt_read.proofs.laws.no_fault_is_a_file.Goals as goal

pub returns : goal.returns
returns c = sound_file
