use Rattle.std.proofs.Common.{map}
use Rattle.std.proofs.Common.{subst}
use Rattle.std.specs.List.{flat_map}
use Rattle.std.proofs.lemmas.List.Concat.{flat_map_single}
use Rattle.std.proofs.lemmas.Result.{err_from_is_err_and}
use Rattle.gt_model.specs.References.{reference, Vertex, edge_references}
use Rattle.node_arena.specs.Checking.{ChecksAll, kind_found}
use Rattle.node_arena.proofs.Faults.{fault-earlier, checks-later}
use Rattle.node_arena.proofs.checks.check_cfg.Goals as goal

pub returns-in_err-check_edges : goal.returns-in_err-check_edges
returns-in_err-check_edges c =
    let p = err_from_is_err_and c.from_residual.result c.from_residual.ensures.1 in
    rw (p.1, p.2)
    (fault-earlier (kind_found c.args.arena.now c.args.index.now) (flat_map (edge_references c.args.from) c.args.cfg.now.edges) (map (reference c.args.from Vertex) c.args.cfg.now.vertices) _
    (rw c.as_slice.ensures at c.in_err-check_edges.ensures))

pub returns : goal.returns
returns c =
    checks-later c.args.arena.now c.args.index.now (flat_map (edge_references c.args.from) c.args.cfg.now.edges) (map (reference c.args.from Vertex) c.args.cfg.now.vertices) c.check_vertices.result
    (rw c.as_slice.ensures at c.in_ok-check_edges.ensures)
    (subst (λ l. ChecksAll c.args.arena.now c.args.index.now l c.check_vertices.result) (flat_map_single (reference c.args.from Vertex) c.args.cfg.now.vertices)
    (rw c.as_slice-2.ensures at c.check_vertices.ensures))
