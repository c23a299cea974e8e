use Rattle.std.proofs.Common.{pos, sym}
use Rattle.std.proofs.lemmas.Result.{err_from_is_err_and}
use Rattle.gr_base.specs.declared.end.End.TheVariants as ends
use Rattle.asm_lines.specs.Instructions.{HasAimedShape}
use Rattle.asm_lines.proofs.Offsets.{moved, same_expression, syntax_reason}
use Rattle.asm_lines.proofs.Sayings.{label_aim, label_shape}
use Rattle.asm_lines.proofs.instruction.read_aimed.Goals as goal

pub returns-in_err-label-in-Label-clause-only : goal.returns-in_err-label-in-Label-clause-only
returns-in_err-label-in-Label-clause-only c =
    let p = err_from_is_err_and c.from_residual.result c.from_residual.ensures.1 in
    rw (p.1, p.2) (λ e is. c.in_err-label-in-Label.ensures.only e.label (label_aim c.args.aim c.args.text.now e c.in-Label.is is).0)

pub returns-in_err-label-in-Label-clause-reason : goal.returns-in_err-label-in-Label-clause-reason
returns-in_err-label-in-Label-clause-reason c =
    let p = err_from_is_err_and c.from_residual.result c.from_residual.ensures.1 in
    rw (p.1, p.2) (λ reason e. syntax_reason
    c.in_err-label-in-Label.field-0.0 reason (HasAimedShape c.args.aim c.args.text.now)
    (c.in_err-label-in-Label.ensures.reason reason (moved c.in_err-label-in-Label.field-0.0 (ends.Fault reason) e))
    (λ shape. let q = label_shape c.args.aim c.args.text.now c.in-Label.is shape in c.in_err-label-in-Label.ensures.only q.0 q.1) e)

pub returns-in_ok-label-in-Label-clause-only : goal.returns-in_ok-label-in-Label-clause-only
returns-in_ok-label-in-Label-clause-only c = λ e is.
    let q = label_aim c.args.aim c.args.text.now e c.in-Label.is is in
    same_expression (record { label = c.in_ok-label-in-Label.label; offset = pos 0 }) e (c.in_ok-label-in-Label.ensures.only e.label q.0) (sym q.1)
