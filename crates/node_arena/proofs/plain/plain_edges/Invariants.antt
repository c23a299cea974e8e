use Rattle.std.proofs.Common.{◌≡◌, map, take}
use Rattle.node_arena.specs.Plain.{plain_edge}
use Rattle.node_arena.specs.Stored.{arenas_of}
use Rattle.node_arena.proofs.plain.plain_edges.Given as goal

abbrev pub invariant-loop-id : goal.invariant-loop-id
invariant-loop-id l = l.edges.items ≡ map (plain_edge (arenas_of l.arena)) (take l.id-index l.arena.live.items)
