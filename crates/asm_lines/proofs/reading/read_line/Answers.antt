use Rattle.std.proofs.Common.{◌∙◌, List, ℕ, subst, sym}
use Rattle.std.proofs.lemmas.Result.{err_from_is_err_and}
use Rattle.gr_base.specs.declared.end.End.TheVariants as ends
use Rattle.asm_read.specs.Words.{HasWords}
use Rattle.asm_lines.specs.Lines.{WordsSay}
use Rattle.asm_lines.proofs.Offsets.{moved, same_end}
use Rattle.asm_lines.proofs.Sayings.{line_fault, no_words_fault}
use Rattle.asm_lines.proofs.reading.read_line.Goals as goal

pub returns-in_err-words-clause-only : goal.returns-in_err-words-clause-only
returns-in_err-words-clause-only c =
    let p = err_from_is_err_and c.from_residual.result c.from_residual.ensures.1 in
    rw (p.1, p.2) (λ said is. c.in_err-words.ensures.only is.words is.utf8 is.has)

pub returns-in_err-words-clause-reason : goal.returns-in_err-words-clause-reason
returns-in_err-words-clause-reason c =
    let p = err_from_is_err_and c.from_residual.result c.from_residual.ensures.1 in
    rw (p.1, p.2) (λ reason e. no_words_fault
    c.args.line.now reason
    (λ words utf8 has. sym (same_end c.in_err-words.field-0.0 (ends.Fault reason) e) ∙ c.in_err-words.ensures.only words utf8 has)
    (c.in_err-words.ensures.reason reason (moved c.in_err-words.field-0.0 (ends.Fault reason) e)))

pub returns-clause-only : goal.returns-clause-only
returns-clause-only c = λ said is.
    let same = c.one_split.ensures c.args.line.now is.words c.in_ok-words.words is.has c.in_ok-words.ensures.found in
    c.read_words.ensures.only said (subst (λ (ws : List (List ℕ)). WordsSay ws said) (same ∙ sym c.as_slice.ensures) is.such)

pub returns-clause-reason : goal.returns-clause-reason
returns-clause-reason c = λ reason e. line_fault
    c.args.line.now c.as_slice.result.now reason c.in_ok-words.ensures.utf8
    (subst (λ (ws : List (List ℕ)). HasWords c.args.line.now ws) (sym c.as_slice.ensures) c.in_ok-words.ensures.found)
    (c.read_words.ensures.reason reason e)
