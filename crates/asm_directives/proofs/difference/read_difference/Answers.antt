use Rattle.std.proofs.Common.{Err, ap}
use Rattle.asm_directives.proofs.Differences.{difference_end, no_split}
use Rattle.asm_directives.proofs.difference.read_difference.Goals as goal

pub returns-in-Ok-read_expression : goal.returns-in-Ok-read_expression
returns-in-Ok-read_expression c = let h = c.in-Ok.ensures.found in (h.0, c.in-Ok.behind.now, h.1, h.2, c.in-Ok-read_expression.ensures.found)

pub returns-in-Err-read_expression : goal.returns-in-Err-read_expression
returns-in-Err-read_expression c =
    let h = c.in-Ok.ensures.found in
    difference_end
    c.args.text.now h.0 c.in-Ok.behind.now c.in-Ok.first h.1 h.2 c.in-Ok.ensures.only c.in-Err-read_expression.end
    c.in-Err-read_expression.ensures.only (λ reason e. c.in-Err-read_expression.ensures.reason reason (ap Err e))

pub returns-in-Err : goal.returns-in-Err
returns-in-Err c = no_split c.args.text.now c.in-Err.end c.in-Err.ensures.only (λ reason e. c.in-Err.ensures.reason reason (ap Err e))
