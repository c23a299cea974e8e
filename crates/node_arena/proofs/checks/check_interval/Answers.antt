use Rattle.std.proofs.lemmas.Result.{err_from_is_err_and}
use Rattle.gt_model.specs.References.{expr_references}
use Rattle.node_arena.specs.Checking.{kind_found}
use Rattle.node_arena.proofs.Faults.{none-at, fault-at}
use Rattle.node_arena.proofs.checks.check_interval.Goals as goal

pub loop-expr-preserved : goal.loop-expr-preserved
loop-expr-preserved c =
    let within = rw c.as_slice-expr-items.ensures at c.loop-expr-test.true in
    let item = rw c.as_slice-expr-items.ensures at c.expr-item.is in
    none-at (kind_found c.args.arena.now c.args.index.now) (expr_references c.args.parent.index c.args.interval.now.uuid) c.args.interval.now.exprs c.loop-expr.expr-index c.expr-item.result within item c.loop-expr.invariant
    c.in_ok-check_expr.ensures

pub returns-in_err-check_expr : goal.returns-in_err-check_expr
returns-in_err-check_expr c =
    let within = rw c.as_slice-expr-items.ensures at c.loop-expr-test.true in
    let item = rw c.as_slice-expr-items.ensures at c.expr-item.is in
    let p = err_from_is_err_and c.from_residual.result c.from_residual.ensures.1 in
    rw (p.1, p.2)
    (fault-at (kind_found c.args.arena.now c.args.index.now) (expr_references c.args.parent.index c.args.interval.now.uuid) c.args.interval.now.exprs c.loop-expr.expr-index c.expr-item.result within item c.loop-expr.invariant
    _ c.in_err-check_expr.ensures)
