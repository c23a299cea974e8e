use Rattle.std.proofs.Common.{◌∙◌, sym}
use Rattle.asm_lines.proofs.Escapes.{closed, tails, whole_name}
use Rattle.asm_lines.proofs.name.read_quoted.Goals as goal

pub returns-in-Some-clause-found : goal.returns-in-Some-clause-found
returns-in-Some-clause-found c = closed c.args.name.now c.read_inside.new.name c.args.text.now c.in_ok-rest.rest.now c.in-Some.outside.now c.in_ok-rest.ensures.read c.in-Some.ensures

pub returns-in-Some-clause-only : goal.returns-in-Some-clause-only
returns-in-Some-clause-only c = λ more other e.
    let q = whole_name c.args.name.now c.read_inside.new.name c.args.text.now c.in_ok-rest.rest.now c.in_ok-rest.ensures.read c.in_ok-rest.ensures.stops more other e in
    (tails 34 34 c.in-Some.outside.now other (sym c.in-Some.ensures ∙ q.0), q.1)

pub returns-in-None-clause-only : goal.returns-in-None-clause-only
returns-in-None-clause-only c = λ more other e.
    let q = whole_name c.args.name.now c.read_inside.new.name c.args.text.now c.in_ok-rest.rest.now c.in_ok-rest.ensures.read c.in_ok-rest.ensures.stops more other e in
    absurd (c.in-None.ensures other q.0)
