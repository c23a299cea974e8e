use Rattle.asm_directives.proofs.Moved.{fails}
use Rattle.asm_directives.proofs.Values.{number_tells, other_tells, quad_differs, quad_number}
use Rattle.asm_lines.specs.Expressions.{HasExpressionShape}
use Rattle.asm_directives.proofs.value.read_no_address.Goals as goal

pub returns-then-is_number : goal.returns-then-is_number
returns-then-is_number c = quad_number c.args.text.now c.requires.none (number_tells c.args.reason (HasExpressionShape c.args.text.now) (c.is_number.ensures.0 c.if-is_number.true) c.requires.tells)

pub returns : goal.returns
returns c = quad_differs
    c.args.text.now c.requires.none
    (other_tells c.args.reason (HasExpressionShape c.args.text.now) (fails c.is_number.result c.is_number.ensures c.if-is_number.false) c.requires.tells)
    c.read_quad_difference.result c.read_quad_difference.ensures
