use Rattle.std.proofs.Common.{◌∙◌, List, ℕ, [], subst, sym}
use Rattle.std.specs.Prelude.{IsUtf8}
use Rattle.std.proofs.lemmas.Result.{err_from_is_err_and}
use Rattle.asm_lines.proofs.Fronts.{label_front, memory_left, same_label, some_left}
use Rattle.asm_lines.proofs.label.read_label.Goals as goal

pub returns-in_err-ordinal-clause-only : goal.returns-in_err-ordinal-clause-only
returns-in_err-ordinal-clause-only c =
    let p = err_from_is_err_and c.from_residual.result c.from_residual.ensures.1 in
    λ label is. rw (p.1, p.2) (c.in_err-ordinal.ensures.only label.name [] label.ordinal (label_front c.args.word.now label is) tt)

pub returns-then-not-is_empty-clause-only : goal.returns-then-not-is_empty-clause-only
returns-then-not-is_empty-clause-only c = λ label is.
    let q = c.in_ok-ordinal.ensures.only label.name [] label.ordinal (label_front c.args.word.now label is) tt in
    absurd (some_left c.in_ok-ordinal.rest.now c.is_empty.result c.is_empty.ensures c.if-not-is_empty.true q.1)

pub returns-in_err-name-clause-only : goal.returns-in_err-name-clause-only
returns-in_err-name-clause-only c =
    let p = err_from_is_err_and c.from_residual-in_err-name.result c.from_residual-in_err-name.ensures.1 in
    λ label is.
    let q = c.in_ok-ordinal.ensures.only label.name [] label.ordinal (label_front c.args.word.now label is) tt in
    let utf8 : IsUtf8 c.as_slice.result.now = subst IsUtf8 (sym (c.as_slice.ensures ∙ q.2)) is.utf8 in
    rw (p.1, p.2) (memory_left (List ℕ) c.in_err-name.field-0.0 (λ reason e. (c.in_err-name.ensures.reason reason e).1 utf8))

pub returns-clause-only : goal.returns-clause-only
returns-clause-only c = λ label is.
    let q = c.in_ok-ordinal.ensures.only label.name [] label.ordinal (label_front c.args.word.now label is) tt in
    same_label (record { name = c.in_ok-name.name; ordinal = c.in_ok-ordinal.ordinal }) label (c.in_ok-name.ensures.found.0 ∙ c.as_slice.ensures ∙ q.2) q.0
