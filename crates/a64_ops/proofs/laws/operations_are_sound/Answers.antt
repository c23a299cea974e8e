use Rattle.a64_ops.proofs.Soundness.{sound}
use Rattle.a64_ops.proofs.laws.operations_are_sound.Goals as goal

pub returns : goal.returns
returns c = λ i allowed. sound i allowed
