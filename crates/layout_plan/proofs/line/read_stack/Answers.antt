use Rattle.layout_plan.proofs.Lines.{no_stack_at, no_stack_size, no_stack}
use Rattle.layout_plan.proofs.line.read_stack.Goals as goal

pub returns-in_err-at-clause-none : goal.returns-in_err-at-clause-none
returns-in_err-at-clause-none c = no_stack_at _ c.args.at.now c.args.size.now c.read_number.result c.read_number.ensures c.in_err-at.was

pub returns-in_err-size-clause-none : goal.returns-in_err-size-clause-none
returns-in_err-size-clause-none c = no_stack_size _ c.args.at.now c.args.size.now c.read_number-2.result c.read_number-2.ensures c.in_err-size.was

pub returns-else-is_stack_size-clause-none : goal.returns-else-is_stack_size-clause-none
returns-else-is_stack_size-clause-none c = no_stack c.args.at.now c.args.size.now c.read_number-2.result c.in_ok-size.size c.read_number-2.ensures c.in_ok-size.was (λ h. let true_ = c.is_stack_size.ensures.1 h in cc)
