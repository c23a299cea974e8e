use Rattle.std.proofs.lemmas.Result.{err_from_is_err_and}
use Rattle.gr_base.specs.declared.end.End.TheVariants as ends
use Rattle.asm_read.specs.declared.fault.TextReason.TheVariants as reasons
use Rattle.a64_forms.specs.Spelling.{held}
use Rattle.asm_lines.specs.Instructions.{aimed}
use Rattle.asm_lines.proofs.Offsets.{moved}
use Rattle.asm_lines.proofs.Sayings.{shape_reason, target_shape}
use Rattle.asm_lines.proofs.instruction.reason_of.Goals as goal

pub returns-in_err-_named-in-Some-clause-refused : goal.returns-in_err-_named-in-Some-clause-refused
returns-in_err-_named-in-Some-clause-refused c =
    let p = err_from_is_err_and c.from_residual.result c.from_residual.ensures.1 in
    rw (p.1, p.2) (λ reason e. shape_reason
    c.one_form.ensures c.args.texts.now (held c.in-Some.share) c.in-Some.ensures.some reason
    (c.in_err-_named-in-Some.ensures.reason reason (moved c.in_err-_named-in-Some.field-0.0 (ends.Fault reason) e)))

pub returns-in_ok-_named-in-Some-clause-found : goal.returns-in_ok-_named-in-Some-clause-found
returns-in_ok-_named-in-Some-clause-found c = shape_reason
    c.one_form.ensures c.args.texts.now (held c.in-Some.share) c.in-Some.ensures.some reasons.Number
    (target_shape (aimed c.in-Some.share.target) c.in_ok-_named-in-Some._named c.in_ok-_named-in-Some.ensures.found)
