use Rattle.gt_model.proofs.Linking.{fault_or_linked}
use Rattle.gt_model.proofs.laws.linked_without_fault.Goals as goal

pub returns : goal.returns
returns c = fault_or_linked
