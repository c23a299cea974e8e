use Rattle.asm_directives.specs.declared.directive.Directive.TheVariants as directives
use Rattle.asm_directives.proofs.Choices.{two_of}
use Rattle.asm_directives.proofs.operands.read_two.Goals as goal

pub returns-in-Set : goal.returns-in-Set
returns-in-Set c = two_of c.args.directive directives.Set c.in-Set.is c.read_set.result c.args.first.now c.args.second.now c.read_set.ensures

pub returns-in-Interval : goal.returns-in-Interval
returns-in-Interval c = two_of c.args.directive directives.Interval c.in-Interval.is c.read_interval.result c.args.first.now c.args.second.now c.read_interval.ensures

pub returns-in-Inst : goal.returns-in-Inst
returns-in-Inst c = two_of c.args.directive directives.Inst c.in-Inst.is c.read_inst_with.result c.args.first.now c.args.second.now c.read_inst_with.ensures
