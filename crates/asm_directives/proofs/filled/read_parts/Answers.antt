use Rattle.std.proofs.Common.{Err, ap, pos}
use Rattle.asm_lines.specs.declared.line.AsmExpr.{AsmExpr}
use Rattle.asm_directives.proofs.Instants.{filled_refused, filled_said}
use Rattle.asm_directives.proofs.Numbers.{expression_shape}
use Rattle.asm_directives.proofs.filled.read_parts.Goals as goal

pub returns-in-Ok : goal.returns-in-Ok
returns-in-Ok c = filled_said c.args.number.now c.args.text.now c.in-Ok.e c.in-Ok.ensures.found (expression_shape c.args.text.now c.in-Ok.e c.in-Ok.ensures.found) c.in-Ok.ensures.only c.open_line.result c.open_line.ensures

pub returns-in-Err-Fault : goal.returns-in-Err-Fault
returns-in-Err-Fault c = filled_refused
    c.args.number.now c.args.text.now c.in-Err-Fault.field-0 c.in-Err-Fault.reason c.joint_reason.result c.in-Err-Fault.field-0-is c.in-Err-Fault.ensures.only
    (c.in-Err-Fault.ensures.reason c.in-Err-Fault.reason (ap Err c.in-Err-Fault.field-0-is))
    (λ shape. let e : AsmExpr = record { label = shape.name; offset = pos 0 } in e)
    c.joint_reason.ensures.number c.joint_reason.ensures.other
