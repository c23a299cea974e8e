use Rattle.gt_model.proofs.Injective.{ir_injective}
use Rattle.gt_model.proofs.laws.one_value.Goals as goal

pub returns : goal.returns
returns c = ir_injective
