use Rattle.std.proofs.Common.{◌≡◌, map, take}
use Rattle.node_arena.specs.Plain.{end_id}
use Rattle.node_arena.specs.Stored.{arenas_of}
use Rattle.node_arena.proofs.plain.plain_vertices.Given as goal

abbrev pub invariant-loop-end : goal.invariant-loop-end
invariant-loop-end l = l.vertices.items ≡ map (end_id (arenas_of l.arena)) (take l.end-index l.arena.vertices.items)
