use Rattle.std.proofs.Common.{sym, arith}
use Rattle.std.proofs.lemmas.Result.{err_from_is_err_and}
use Rattle.gt_read.proofs.FileLemmas.{long_enough, behind}
use Rattle.gt_read.proofs.Outcomes.{begun_comes, begun_as}
use Rattle.gt_read.proofs.feeding.begin_file.Goals as goal

pub bounds-bytes : goal.bounds-bytes
bounds-bytes c = let long = long_enough c.args.bytes.now (sym c.in_default.ensures) in omega arith

pub slice_bounds-begin-count : goal.slice_bounds-begin-count
slice_bounds-begin-count c = long_enough c.args.bytes.now (sym c.in_default.ensures)

pub slice_bounds-begin-start : goal.slice_bounds-begin-start
slice_bounds-begin-start c = long_enough c.args.bytes.now (sym c.in_default.ensures)

pub returns-in_err-body-clause-err : goal.returns-in_err-body-clause-err
returns-in_err-body-clause-err c =
    let p = err_from_is_err_and c.from_residual.result c.from_residual.ensures.1 in
    let long = long_enough c.args.bytes.now (sym c.in_default.ensures) in
    rw (p.1, p.2) (λ rest. begun_comes c.args.bytes.now _ rest c.in_err-body.field-0.0 (sym c.in_default.ensures) (behind c.args.bytes.now long) (c.in_err-body.ensures.err rest))

pub returns-clause-ok : goal.returns-clause-ok
returns-clause-ok c =
    let long = long_enough c.args.bytes.now (sym c.in_default.ensures) in
    λ rest. begun_as c.args.bytes.now _ rest _ (sym c.in_default.ensures) (behind c.args.bytes.now long) (c.in_ok-body.ensures.ok rest)
