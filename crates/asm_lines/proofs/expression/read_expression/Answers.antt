use Rattle.std.proofs.Common.{◌∙◌, List, ℕ, ℤ, rules, subst, sym}
use Rattle.std.specs.Prelude.{IsUtf8}
use Rattle.std.specs.Int.{w64}
use Rattle.std.proofs.lemmas.Int.{to_z-of_z}
use mir.Val.{SFits}
use Rattle.std.proofs.lemmas.Result.{err_from_is_err_and}
use Rattle.gr_base.specs.declared.end.End.TheVariants as ends
use Rattle.asm_lines.specs.declared.line.AsmExpr.{AsmExpr}
use Rattle.asm_lines.specs.declared.line.AsmName.{AsmName}
use Rattle.asm_lines.specs.Expressions.{HasExpressionShape, HasOffsetShape, IsExpression, IsOffset}
use Rattle.asm_lines.proofs.Fronts.{memory_left, same_label}
use Rattle.asm_lines.proofs.Offsets.{expression_ends, expression_front, expression_of, moved, named_front, no_ok, same_expression, shape_ends, shape_front, shape_of, syntax_reason, syntax_tells, tells_of, values}
use Rattle.asm_lines.proofs.expression.read_expression.Goals as goal

pub returns-in_err-ordinal-clause-only : goal.returns-in_err-ordinal-clause-only
returns-in_err-ordinal-clause-only c =
    let p = err_from_is_err_and c.from_residual.result c.from_residual.ensures.1 in
    λ e is. rw (p.1, p.2) (c.in_err-ordinal.ensures.only e.label.name is.offset e.label.ordinal (expression_front c.args.text.now e is) (expression_ends c.args.text.now e is))

pub returns-in_err-ordinal-clause-reason : goal.returns-in_err-ordinal-clause-reason
returns-in_err-ordinal-clause-reason c =
    let p = err_from_is_err_and c.from_residual.result c.from_residual.ensures.1 in
    rw (p.1, p.2) (λ reason e. syntax_reason
    c.in_err-ordinal.field-0.0 reason (HasExpressionShape c.args.text.now) (c.in_err-ordinal.ensures.reason reason (moved c.in_err-ordinal.field-0.0 (ends.Fault reason) e))
    (λ shape. c.in_err-ordinal.ensures.only shape.name.name shape.offset shape.name.ordinal (shape_front c.args.text.now shape) (shape_ends shape.offset shape.offset_is)) e)

pub returns-in_err-name-clause-only : goal.returns-in_err-name-clause-only
returns-in_err-name-clause-only c =
    let p = err_from_is_err_and c.from_residual-in_err-name.result c.from_residual-in_err-name.ensures.1 in
    λ e is.
    let q = c.in_ok-ordinal.ensures.only e.label.name is.offset e.label.ordinal (expression_front c.args.text.now e is) (expression_ends c.args.text.now e is) in
    let utf8 : IsUtf8 c.as_slice.result.now = subst IsUtf8 (sym (c.as_slice.ensures ∙ q.2)) is.label_is.utf8 in
    rw (p.1, p.2) (memory_left (List ℕ) c.in_err-name.field-0.0 (λ reason f. (c.in_err-name.ensures.reason reason f).1 utf8))

pub returns-in_err-name-clause-reason : goal.returns-in_err-name-clause-reason
returns-in_err-name-clause-reason c =
    let p = err_from_is_err_and c.from_residual-in_err-name.result c.from_residual-in_err-name.ensures.1 in
    rw (p.1, p.2) (λ reason e.
    let r = c.in_err-name.ensures.reason reason (moved c.in_err-name.field-0.0 (ends.Fault reason) e) in
    syntax_tells reason (HasExpressionShape c.args.text.now) r.0 (λ shape.
    let q = c.in_ok-ordinal.ensures.only shape.name.name shape.offset shape.name.ordinal (shape_front c.args.text.now shape) (shape_ends shape.offset shape.offset_is) in
    r.1 (subst IsUtf8 (sym (c.as_slice.ensures ∙ q.2)) shape.label_is.utf8)))

pub returns-in_err-offset-clause-only : goal.returns-in_err-offset-clause-only
returns-in_err-offset-clause-only c = λ e is.
    let q = c.in_ok-ordinal.ensures.only e.label.name is.offset e.label.ordinal (expression_front c.args.text.now e is) (expression_ends c.args.text.now e is) in
    absurd (no_ok c.in_err-offset.field-0.0 e.offset (c.in_err-offset.ensures.only e.offset (subst (λ (t : List ℕ). IsOffset t e.offset) (sym q.1) is.offset_is)))

pub returns-in_err-offset-clause-reason : goal.returns-in_err-offset-clause-reason
returns-in_err-offset-clause-reason c =
    let p = err_from_is_err_and c.from_residual-in_err-offset.result c.from_residual-in_err-offset.ensures.1 in
    let name : AsmName = record { name = c.in_ok-name.name; ordinal = c.in_ok-ordinal.ordinal } in
    let front = named_front c.args.text.now c.read_front.new.name c.as_slice.result.now c.in_ok-name.name c.in_ok-ordinal.rest.now c.in_ok-ordinal.ordinal c.in_ok-ordinal.ensures.found c.as_slice.ensures c.in_ok-name.ensures.found.0 in
    let utf8 : IsUtf8 c.in_ok-name.name = subst IsUtf8 (sym c.in_ok-name.ensures.found.0) c.in_ok-name.ensures.found.1 in
    rw (p.1, p.2) (λ reason e. tells_of
    reason (HasOffsetShape c.in_ok-ordinal.rest.now) (HasExpressionShape c.args.text.now)
    (λ offset. shape_of c.args.text.now c.in_ok-ordinal.rest.now name front utf8 offset)
    (λ shape.
    let q = c.in_ok-ordinal.ensures.only shape.name.name shape.offset shape.name.ordinal (shape_front c.args.text.now shape) (shape_ends shape.offset shape.offset_is) in
    subst HasOffsetShape (sym q.1) shape.offset_is)
    (c.in_err-offset.ensures.reason reason (moved c.in_err-offset.field-0.0 (ends.Fault reason) e)))

pub returns-clause-found : goal.returns-clause-found
returns-clause-found c =
    let front = named_front c.args.text.now c.read_front.new.name c.as_slice.result.now c.in_ok-name.name c.in_ok-ordinal.rest.now c.in_ok-ordinal.ordinal c.in_ok-ordinal.ensures.found c.as_slice.ensures c.in_ok-name.ensures.found.0 in
    let utf8 : IsUtf8 c.in_ok-name.name = subst IsUtf8 (sym c.in_ok-name.ensures.found.0) c.in_ok-name.ensures.found.1 in
    let fits : SFits w64 c.in_ok-offset.offset = search rules in
    simp to_z-of_z (expression_of c.args.text.now c.in_ok-ordinal.rest.now (record { label = record { name = c.in_ok-name.name; ordinal = c.in_ok-ordinal.ordinal }; offset = c.in_ok-offset.offset }) front utf8 c.in_ok-offset.ensures.found)

pub returns-clause-only : goal.returns-clause-only
returns-clause-only c =
    let fits : SFits w64 c.in_ok-offset.offset = search rules in
    simp to_z-of_z (λ e is.
    let q = c.in_ok-ordinal.ensures.only e.label.name is.offset e.label.ordinal (expression_front c.args.text.now e is) (expression_ends c.args.text.now e is) in
    let name : AsmName = record { name = c.in_ok-name.name; ordinal = c.in_ok-ordinal.ordinal } in
    let found : AsmExpr = record { label = name; offset = c.in_ok-offset.offset } in
    same_expression found e
    (same_label name e.label (c.in_ok-name.ensures.found.0 ∙ c.as_slice.ensures ∙ q.2) q.0)
    (values c.in_ok-offset.offset e.offset (c.in_ok-offset.ensures.only e.offset (subst (λ (t : List ℕ). IsOffset t e.offset) (sym q.1) is.offset_is))))
