use Rattle.std.proofs.Common.{◌∙◌, ℕ, pos, ◌+ℤ◌, ◌-ℤ◌, ap, sym, zero-add}
use Rattle.asm_lines.specs.declared.expression.Sign.{Sign}
use Rattle.asm_lines.specs.Expressions.{signed}
use Rattle.asm_lines.proofs.Offsets.{signed_none, signed_some}
use Rattle.asm_lines.proofs.expression.offset_of.Goals as goal

pub returns-in_err-number : goal.returns-in_err-number
returns-in_err-number c = rw c.from_residual.ensures (signed_none c.args.sign c.args.digits.now c.in_err-number.ensures)

pub returns-in-Plus : goal.returns-in-Plus
returns-in-Plus c = signed_some c.args.sign c.args.digits.now c.checked_add_unsigned.result c.in_ok-number.number (pos 0 +ℤ pos c.in_ok-number.number) c.in_ok-number.ensures (ap (λ (m : ℕ). pos m) (zero-add c.in_ok-number.number) ∙ ap (λ (s : Sign). signed s c.in_ok-number.number) (sym c.in-Plus.is)) c.checked_add_unsigned.ensures

pub returns-in-Minus : goal.returns-in-Minus
returns-in-Minus c = signed_some c.args.sign c.args.digits.now c.checked_sub_unsigned.result c.in_ok-number.number (pos 0 -ℤ pos c.in_ok-number.number) c.in_ok-number.ensures (ap (λ (s : Sign). signed s c.in_ok-number.number) (sym c.in-Minus.is)) c.checked_sub_unsigned.ensures
