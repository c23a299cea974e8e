use Rattle.edge_repair.proofs.Unpatched.{edges_stay}
use Rattle.edge_repair.proofs.laws.no_patches_keep_the_edges.Goals as goal

pub returns : goal.returns
returns c = edges_stay
