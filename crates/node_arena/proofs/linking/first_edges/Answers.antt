use Rattle.node_arena.proofs.Written.{edges-more}
use Rattle.node_arena.proofs.linking.first_edges.Goals as goal

pub loop-index-preserved : goal.loop-index-preserved
loop-index-preserved c = edges-more _ _ _ c.in_ok-push.ensures.items c.loop-index.invariant
