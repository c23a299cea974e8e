use Rattle.std.proofs.Common.{◌≡◌, map, take}
use Rattle.std.specs.Str.{bytes_eq}
use Rattle.indexmap.specs.IndexMap.{get}
use Rattle.node_arena.specs.Linking.{end_found}
use Rattle.node_arena.proofs.linking.vertices_of.Given as goal

abbrev pub invariant-loop-id : goal.invariant-loop-id
invariant-loop-id l = l.vertices.items ≡ map (end_found (get bytes_eq l.index)) (take l.id-index l.from)
