use Rattle.node_arena.proofs.RefLaws.{live_refs}
use Rattle.node_arena.proofs.index.indexed.Goals as goal

pub index_of-requires : goal.index_of-requires
index_of-requires c = rw (c.as_slice.ensures.value, c.in_ok-nodes.ensures) (live_refs _ c.requires)
