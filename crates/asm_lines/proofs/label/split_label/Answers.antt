use Rattle.std.proofs.Common.{◌∙◌, ◌++◌, List, ℕ, refl, subst, sym}
use Rattle.std.specs.Prelude.{IsUtf8}
use Rattle.std.proofs.lemmas.Result.{err_from_is_err_and}
use Rattle.asm_lines.specs.declared.line.AsmName.{AsmName}
use Rattle.asm_lines.proofs.Fronts.{label_then, memory_left, same_label, then_label}
use Rattle.asm_lines.proofs.Offsets.{named_front}
use Rattle.asm_lines.proofs.label.split_label.Goals as goal

pub returns-in_err-ordinal-clause-only : goal.returns-in_err-ordinal-clause-only
returns-in_err-ordinal-clause-only c =
    let p = err_from_is_err_and c.from_residual.result c.from_residual.ensures.1 in
    λ label rest name e is ends. rw (p.1, p.2) (c.in_err-ordinal.ensures.only name.name rest name.ordinal (label_then c.args.text.now label rest name e is) ends)

pub returns-in_err-name-clause-only : goal.returns-in_err-name-clause-only
returns-in_err-name-clause-only c =
    let p = err_from_is_err_and c.from_residual-in_err-name.result c.from_residual-in_err-name.ensures.1 in
    λ label rest name e is ends.
    let q = c.in_ok-ordinal.ensures.only name.name rest name.ordinal (label_then c.args.text.now label rest name e is) ends in
    let utf8 : IsUtf8 c.as_slice.result.now = subst IsUtf8 (sym (c.as_slice.ensures ∙ q.2)) is.utf8 in
    rw (p.1, p.2) (memory_left (List ℕ) c.in_err-name.field-0.0 (λ reason f. (c.in_err-name.ensures.reason reason f).1 utf8))

pub returns-clause-found : goal.returns-clause-found
returns-clause-found c =
    let name : AsmName = record { name = c.in_ok-name.name; ordinal = c.in_ok-ordinal.ordinal } in
    let front = named_front c.args.text.now c.read_front.new.name c.as_slice.result.now c.in_ok-name.name c.in_ok-ordinal.rest.now c.in_ok-ordinal.ordinal c.in_ok-ordinal.ensures.found c.as_slice.ensures c.in_ok-name.ensures.found.0 in
    let utf8 : IsUtf8 c.in_ok-name.name = subst IsUtf8 (sym c.in_ok-name.ensures.found.0) c.in_ok-name.ensures.found.1 in
    let q = then_label c.args.text.now c.in_ok-ordinal.rest.now name front utf8 in
    (front.0 ++ front.1, q.0, q.1)

pub returns-clause-only : goal.returns-clause-only
returns-clause-only c = λ label rest name e is ends.
    let q = c.in_ok-ordinal.ensures.only name.name rest name.ordinal (label_then c.args.text.now label rest name e is) ends in
    (same_label (record { name = c.in_ok-name.name; ordinal = c.in_ok-ordinal.ordinal }) name (c.in_ok-name.ensures.found.0 ∙ c.as_slice.ensures ∙ q.2) q.0, q.1)
