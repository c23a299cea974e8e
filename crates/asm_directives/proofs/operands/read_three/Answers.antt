use Rattle.asm_directives.specs.declared.directive.Directive.TheVariants as directives
use Rattle.asm_directives.proofs.Choices.{three_of}
use Rattle.asm_directives.proofs.operands.read_three.Goals as goal

pub returns-in-Interval : goal.returns-in-Interval
returns-in-Interval c = three_of c.args.directive directives.Interval c.in-Interval.is c.read_interval_at.result c.args.first.now c.args.second.now c.args.third.now c.read_interval_at.ensures
