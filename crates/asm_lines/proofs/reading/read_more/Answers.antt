use Rattle.std.proofs.Common.{◌∙◌, sym}
use Rattle.std.proofs.lemmas.Result.{err_from_is_err_and}
use Rattle.gr_base.specs.declared.end.End.TheVariants as ends
use Rattle.asm_lines.proofs.Offsets.{moved, same_end}
use Rattle.asm_lines.proofs.Sayings.{texts_fault}
use Rattle.asm_lines.proofs.reading.read_more.Goals as goal

pub returns-in_err-item-clause-reason : goal.returns-in_err-item-clause-reason
returns-in_err-item-clause-reason c =
    let p = err_from_is_err_and c.from_residual-in_err-item.result c.from_residual-in_err-item.ensures.1 in
    rw (p.1, p.2) (λ reason e. texts_fault
    c.args.words.now c.as_slice.result.now reason (c.as_slice.ensures ∙ c.in_ok-texts.ensures) c.requires.more c.requires.plain
    (λ item is. sym (same_end c.in_err-item.field-0.0 (ends.Fault reason) e) ∙ c.in_err-item.ensures.only item is)
    (c.in_err-item.ensures.reason reason (moved c.in_err-item.field-0.0 (ends.Fault reason) e)))
