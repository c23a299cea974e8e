use Rattle.std.proofs.Common.{ℤ}
use Rattle.asm_read.specs.declared.fault.TextReason.TheVariants as reasons
use Rattle.asm_lines.specs.declared.expression.Sign.TheVariants.{Plus, Minus}
use Rattle.asm_lines.specs.Expressions.{HasOffsetShape}
use Rattle.asm_lines.proofs.Offsets.{no_shape, shape_of_offset, signed_found, signed_part, signed_shape, tells}
use Rattle.asm_lines.proofs.expression.read_written.Goals as goal

pub returns-in-Some-clause-found : goal.returns-in-Some-clause-found
returns-in-Some-clause-found c = signed_found c.args.text.now c.in-Some.digits.now Plus c.read_signed.result c.in-Some.ensures c.read_signed.ensures.found

pub returns-in-Some-clause-only : goal.returns-in-Some-clause-only
returns-in-Some-clause-only c = λ offset is. c.read_signed.ensures.only offset (signed_part c.args.text.now c.in-Some.digits.now Plus c.in-Some.ensures offset is)

pub returns-in-Some-clause-reason : goal.returns-in-Some-clause-reason
returns-in-Some-clause-reason c = λ reason e. signed_shape c.args.text.now c.in-Some.digits.now Plus reason c.in-Some.ensures (c.read_signed.ensures.reason reason e)

pub returns-in-Some-behind-clause-found : goal.returns-in-Some-behind-clause-found
returns-in-Some-behind-clause-found c = signed_found c.args.text.now c.in-Some-behind.digits.now Minus c.read_signed-in-Some-behind.result c.in-Some-behind.ensures c.read_signed-in-Some-behind.ensures.found

pub returns-in-Some-behind-clause-only : goal.returns-in-Some-behind-clause-only
returns-in-Some-behind-clause-only c = λ offset is. c.read_signed-in-Some-behind.ensures.only offset (signed_part c.args.text.now c.in-Some-behind.digits.now Minus c.in-Some-behind.ensures offset is)

pub returns-in-Some-behind-clause-reason : goal.returns-in-Some-behind-clause-reason
returns-in-Some-behind-clause-reason c = λ reason e. signed_shape c.args.text.now c.in-Some-behind.digits.now Minus reason c.in-Some-behind.ensures (c.read_signed-in-Some-behind.ensures.reason reason e)

pub returns-in-None-behind-clause-only : goal.returns-in-None-behind-clause-only
returns-in-None-behind-clause-only c = λ offset is. absurd (no_shape c.args.text.now c.requires c.in-None.ensures c.in-None-behind.ensures (shape_of_offset c.args.text.now offset is))

pub returns-in-None-behind-clause-reason : goal.returns-in-None-behind-clause-reason
returns-in-None-behind-clause-reason c = λ reason e. tells {T = ℤ} reasons.Syntax reason (HasOffsetShape c.args.text.now) (no_shape c.args.text.now c.requires c.in-None.ensures c.in-None-behind.ensures) e
