use Rattle.std.proofs.Common.{suc, zero, arith}
use Rattle.graph_rows.proofs.edges.remove_edges.Goals as goal

pub remove_edges-requires : goal.remove_edges-requires
remove_edges-requires c zero d below = c.in_ok-left.ensures
remove_edges-requires c (suc zero) d below = c.in_ok-right.ensures
remove_edges-requires c (suc (suc k)) d below = absurd (omega (arith, below))
