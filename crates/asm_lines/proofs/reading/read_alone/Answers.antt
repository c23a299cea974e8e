use Rattle.std.proofs.Common.{◌∙◌, sym}
use Rattle.std.proofs.lemmas.Result.{err_from_is_err_and}
use Rattle.gr_base.specs.declared.end.End.TheVariants as ends
use Rattle.asm_lines.proofs.Offsets.{moved, same_end}
use Rattle.asm_lines.proofs.Sayings.{label_fault, label_only, label_refused}
use Rattle.asm_lines.proofs.reading.read_alone.Goals as goal

pub returns-in_err-label-in-Some-clause-only : goal.returns-in_err-label-in-Some-clause-only
returns-in_err-label-in-Some-clause-only c =
    let p = err_from_is_err_and c.from_residual.result c.from_residual.ensures.1 in
    rw (p.1, p.2) (label_refused c.form_begins.ensures c.args.word.now c.in-Some.label.now c.in_err-label-in-Some.field-0.0 c.in-Some.ensures c.in_err-label-in-Some.ensures.only)

pub returns-in_err-label-in-Some-clause-reason : goal.returns-in_err-label-in-Some-clause-reason
returns-in_err-label-in-Some-clause-reason c =
    let p = err_from_is_err_and c.from_residual.result c.from_residual.ensures.1 in
    rw (p.1, p.2) (λ reason e. label_fault
    c.form_begins.ensures c.args.word.now c.in-Some.label.now reason c.in-Some.ensures
    (λ name is. sym (same_end c.in_err-label-in-Some.field-0.0 (ends.Fault reason) e) ∙ c.in_err-label-in-Some.ensures.only name is)
    (c.in_err-label-in-Some.ensures.reason reason (moved c.in_err-label-in-Some.field-0.0 (ends.Fault reason) e)))

pub returns-in_ok-label-in-Some-clause-only : goal.returns-in_ok-label-in-Some-clause-only
returns-in_ok-label-in-Some-clause-only c = label_only c.form_begins.ensures c.args.word.now c.in-Some.label.now c.in_ok-label-in-Some.label c.in-Some.ensures c.in_ok-label-in-Some.ensures.only
