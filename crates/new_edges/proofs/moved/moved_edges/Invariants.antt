use Rattle.std.proofs.Common.{◌≡◌, take}
use Rattle.std.specs.List.{filter_map}
use Rattle.std.specs.Str.{bytes_eq}
use Rattle.indexmap.specs.IndexMap.{get}
use Rattle.new_edges.specs.Leaving.{edge_moved}
use Rattle.new_edges.proofs.moved.moved_edges.Given as goal

abbrev pub invariant-loop-edge : goal.invariant-loop-edge
invariant-loop-edge l = l.moved.items ≡ filter_map (edge_moved (get bytes_eq l.leaving)) (take l.edge-index l.edges)
