use Rattle.std.proofs.Common.{◌++◌}
use Rattle.std.proofs.lemmas.Result.{err_from_is_err_and}
use Rattle.asm_lines.proofs.Fronts.{front_name}
use Rattle.asm_lines.proofs.label.read_front.Goals as goal

pub returns-in_err-rest-clause-only : goal.returns-in_err-rest-clause-only
returns-in_err-rest-clause-only c =
    let p = err_from_is_err_and c.from_residual.result c.from_residual.ensures.1 in
    λ other rest ordinal h ends.
    let q = front_name c.args.text.now other rest ordinal h ends in
    rw (p.1, p.2) (c.in_err-rest.ensures.only other (h.1 ++ rest) q.0 q.1)

pub returns-in-Some-clause-only : goal.returns-in-Some-clause-only
returns-in-Some-clause-only c = λ other rest ordinal h ends.
    let q = front_name c.args.text.now other rest ordinal h ends in
    let n = c.in_ok-rest.ensures.only other (h.1 ++ rest) q.0 q.1 in
    let o = c.in-Some.ensures.only h.1 rest ordinal n.0 h.4 ends in
    (o.0, o.1, n.1)

pub returns-in-None-clause-only : goal.returns-in-None-clause-only
returns-in-None-clause-only c = λ other rest ordinal h ends.
    let q = front_name c.args.text.now other rest ordinal h ends in
    let n = c.in_ok-rest.ensures.only other (h.1 ++ rest) q.0 q.1 in
    absurd (c.in-None.ensures.only h.1 rest ordinal n.0 h.4 ends)
