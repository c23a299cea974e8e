use Rattle.std.proofs.Common.{◌++◌, codes}
use Rattle.asm_directives.proofs.Differences.{quarter_of}
use Rattle.asm_directives.proofs.difference.inside_quarter.Goals as goal

pub returns-in-Some : goal.returns-in-Some
returns-in-Some c = quarter_of
    c.before_quarter.result (λ x. x.now) c.args.text.now c.in-Some.rest.now c.in-Some.ensures c.before_quarter.ensures

pub returns-in-None : goal.returns-in-None
returns-in-None c = λ inside e. c.in-None.ensures (inside ++ codes ")/4") e
