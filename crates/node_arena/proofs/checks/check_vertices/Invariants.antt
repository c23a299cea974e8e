use Rattle.std.proofs.Common.{◌≡◌, None, take, [], ◌∷◌}
use Rattle.std.specs.List.{flat_map}
use Rattle.gt_model.specs.Linked.{first_reference_fault}
use Rattle.gt_model.specs.References.{reference, Vertex}
use Rattle.node_arena.specs.Checking.{kind_found}
use Rattle.node_arena.proofs.checks.check_vertices.Given as goal

abbrev pub invariant-loop-id : goal.invariant-loop-id
invariant-loop-id l = first_reference_fault (kind_found l.arena l.index) (flat_map (λ id. reference l.from Vertex id ∷ []) (take l.id-index l.vertices)) ≡ None
