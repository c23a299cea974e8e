use Rattle.layout_plan.proofs.ReadLaws.{gives_it, sized}
use Rattle.layout_plan.proofs.reading.read_layout.Goals as goal

pub returns-clause-only : goal.returns-clause-only
returns-clause-only c = gives_it c.args.text.now (c.one_layout_or_fault.ensures.layout c.args.text.now) (c.one_layout_or_fault.ensures.apart c.args.text.now) c.read_lines.result c.read_lines.ensures.found c.read_lines.ensures.fault

pub returns-clause-stack_size : goal.returns-clause-stack_size
returns-clause-stack_size c = sized c.args.text.now c.read_lines.result c.read_lines.ensures.found
