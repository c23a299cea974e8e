use Rattle.asm_directives.proofs.Marks.{interval_found, interval_refused, no_id}
use Rattle.asm_directives.proofs.interval.read_interval.Goals as goal

pub returns-in-None : goal.returns-in-None
returns-in-None c = no_id c.args.first.now c.args.second.now c.in-None.ensures

pub returns-in-Some-read_alignment : goal.returns-in-Some-read_alignment
returns-in-Some-read_alignment c = interval_found c.args.first.now c.args.second.now c.in-Some.uuid c.in-Some.ensures c.in-Some-read_alignment.align c.in-Some-read_alignment.ensures

pub returns-in-None-read_alignment : goal.returns-in-None-read_alignment
returns-in-None-read_alignment c = interval_refused c.args.first.now c.args.second.now c.in-Some.uuid c.in-Some.ensures c.number_reason.result c.in-None-read_alignment.ensures c.number_reason.ensures
