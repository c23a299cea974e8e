use Rattle.asm_directives.proofs.Numbers.{colon_no_directive, dot_directive}
use Rattle.asm_directives.proofs.directive.is_directive.Goals as goal

pub returns-in-Some : goal.returns-in-Some
returns-in-Some c = colon_no_directive c.args.word.now c.in-Some.field-0.now c.in-Some.ensures

pub returns-in-None : goal.returns-in-None
returns-in-None c = dot_directive c.args.word.now c.begins_dot.result c.in-None.ensures c.begins_dot.ensures
