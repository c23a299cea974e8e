use Rattle.std.proofs.lemmas.Result.{err_from_is_err_and}
use Rattle.gt_model.specs.References.{edge_references}
use Rattle.node_arena.specs.Checking.{kind_found}
use Rattle.node_arena.proofs.Faults.{none-at, fault-at}
use Rattle.node_arena.proofs.checks.check_edges.Goals as goal

pub loop-edge-preserved : goal.loop-edge-preserved
loop-edge-preserved c =
    let within = c.loop-edge-test.true in
    let item = c.edge-item.is in
    none-at (kind_found c.args.arena.now c.args.index.now) (edge_references c.args.from) c.args.edges.now c.loop-edge.edge-index c.edge-item.result within item c.loop-edge.invariant
    c.in_ok-check_edge.ensures

pub returns-in_err-check_edge : goal.returns-in_err-check_edge
returns-in_err-check_edge c =
    let within = c.loop-edge-test.true in
    let item = c.edge-item.is in
    let p = err_from_is_err_and c.from_residual.result c.from_residual.ensures.1 in
    rw (p.1, p.2)
    (fault-at (kind_found c.args.arena.now c.args.index.now) (edge_references c.args.from) c.args.edges.now c.loop-edge.edge-index c.edge-item.result within item c.loop-edge.invariant
    _ c.in_err-check_edge.ensures)
