use Rattle.std.proofs.Common.{Err, ap}
use Rattle.asm_directives.proofs.Differences.{distance_end, no_distance}
use Rattle.asm_directives.proofs.difference.read_distance.Goals as goal

pub returns-in-Ok-read_label : goal.returns-in-Ok-read_label
returns-in-Ok-read_label c = let h = c.in-Ok.ensures.found in (h.0, c.in-Ok.behind.now, h.1, h.2, c.in-Ok-read_label.ensures.found)

pub returns-in-Err-read_label : goal.returns-in-Err-read_label
returns-in-Err-read_label c =
    let h = c.in-Ok.ensures.found in
    distance_end
    c.args.text.now h.0 c.in-Ok.behind.now c.in-Ok.first h.1 h.2 c.in-Ok.ensures.only c.in-Err-read_label.end
    c.in-Err-read_label.ensures.only (λ reason e. c.in-Err-read_label.ensures.reason reason (ap Err e))

pub returns-in-Err : goal.returns-in-Err
returns-in-Err c = no_distance c.args.text.now c.in-Err.end c.in-Err.ensures.only (λ reason e. c.in-Err.ensures.reason reason (ap Err e))
