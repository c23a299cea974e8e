use Rattle.edge_repair.proofs.Still.{values_stay}
use Rattle.edge_repair.proofs.laws.no_patches_keep_the_values.Goals as goal

pub returns : goal.returns
returns c = values_stay
