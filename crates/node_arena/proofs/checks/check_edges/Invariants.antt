use Rattle.std.proofs.Common.{◌≡◌, None, take}
use Rattle.std.specs.List.{flat_map}
use Rattle.gt_model.specs.Linked.{first_reference_fault}
use Rattle.gt_model.specs.References.{edge_references}
use Rattle.node_arena.specs.Checking.{kind_found}
use Rattle.node_arena.proofs.checks.check_edges.Given as goal

abbrev pub invariant-loop-edge : goal.invariant-loop-edge
invariant-loop-edge l = first_reference_fault (kind_found l.arena l.index) (flat_map (edge_references l.from) (take l.edge-index l.edges)) ≡ None
