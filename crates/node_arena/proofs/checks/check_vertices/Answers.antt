use Rattle.std.proofs.lemmas.Result.{err_from_is_err_and}
use Rattle.gt_model.specs.References.{reference, Vertex}
use Rattle.std.proofs.Common.{[], ◌∷◌}
use Rattle.node_arena.specs.Checking.{kind_found}
use Rattle.node_arena.proofs.Faults.{none-at, fault-at}
use Rattle.node_arena.proofs.checks.check_vertices.Goals as goal

pub loop-id-preserved : goal.loop-id-preserved
loop-id-preserved c =
    let within = c.loop-id-test.true in
    let item = c.id-item.is in
    none-at (kind_found c.args.arena.now c.args.index.now) (λ id. reference c.args.from Vertex id ∷ []) c.args.vertices.now c.loop-id.id-index c.id-item.result within item c.loop-id.invariant
    c.in_ok-check_reference.ensures

pub returns-in_err-check_reference : goal.returns-in_err-check_reference
returns-in_err-check_reference c =
    let within = c.loop-id-test.true in
    let item = c.id-item.is in
    let p = err_from_is_err_and c.from_residual.result c.from_residual.ensures.1 in
    rw (p.1, p.2)
    (fault-at (kind_found c.args.arena.now c.args.index.now) (λ id. reference c.args.from Vertex id ∷ []) c.args.vertices.now c.loop-id.id-index c.id-item.result within item c.loop-id.invariant
    _ c.in_err-check_reference.ensures)
