use Rattle.std.proofs.lemmas.Result.{err_from_is_err_and}
use Rattle.gt_model.specs.References.{interval_references}
use Rattle.node_arena.specs.Checking.{kind_found}
use Rattle.node_arena.proofs.Faults.{none-at, fault-at}
use Rattle.node_arena.proofs.checks.check_section.Goals as goal

pub loop-interval-preserved : goal.loop-interval-preserved
loop-interval-preserved c =
    let within = rw c.as_slice-interval-items.ensures at c.loop-interval-test.true in
    let item = rw c.as_slice-interval-items.ensures at c.interval-item.is in
    none-at (kind_found c.args.arena.now c.args.index.now) (interval_references c.args.parent.index) c.args.section.now.intervals c.loop-interval.interval-index c.interval-item.result within item c.loop-interval.invariant
    c.in_ok-check_interval.ensures

pub returns-in_err-check_interval : goal.returns-in_err-check_interval
returns-in_err-check_interval c =
    let within = rw c.as_slice-interval-items.ensures at c.loop-interval-test.true in
    let item = rw c.as_slice-interval-items.ensures at c.interval-item.is in
    let p = err_from_is_err_and c.from_residual.result c.from_residual.ensures.1 in
    rw (p.1, p.2)
    (fault-at (kind_found c.args.arena.now c.args.index.now) (interval_references c.args.parent.index) c.args.section.now.intervals c.loop-interval.interval-index c.interval-item.result within item c.loop-interval.invariant
    _ c.in_err-check_interval.ensures)
