use Rattle.std.proofs.Common.{◌≡◌}
use Rattle.std.specs.List.{range_with_len}
use Rattle.node_arena.specs.Linking.{edge_places}
use Rattle.node_arena.proofs.linking.first_edges.Given as goal

abbrev pub invariant-loop-index : goal.invariant-loop-index
invariant-loop-index l = edge_places l.ids.items ≡ range_with_len 0 l.index
