use Rattle.std.proofs.Common.{◌∷◌}
use Rattle.asm_directives.proofs.Differences.{behind_one, joined, minus_ends}
use Rattle.asm_directives.proofs.Moved.{no_fault}
use Rattle.asm_directives.proofs.difference.split_minus.Goals as goal

pub returns-in-Some-clause-found : goal.returns-in-Some-clause-found
returns-in-Some-clause-found c = let h = c.in-Ok.ensures.found in (h.0, joined c.args.text.now h.0 c.in-Ok.rest.now c.in-Some.behind.now h.1 c.in-Some.ensures, h.2)

pub returns-in-Some-clause-only : goal.returns-in-Some-clause-only
returns-in-Some-clause-only c = λ label behind name e is.
    let q = c.in-Ok.ensures.only label (45 ∷ behind) name e is (minus_ends behind) in
    (q.0, behind_one c.in-Some.behind.now c.in-Ok.rest.now behind c.in-Some.ensures q.1)

pub returns-in-None-clause-only : goal.returns-in-None-clause-only
returns-in-None-clause-only c = λ label behind name e is.
    let q = c.in-Ok.ensures.only label (45 ∷ behind) name e is (minus_ends behind) in
    absurd (c.in-None.ensures behind q.1)

pub returns-in-Err-Fault-clause-only : goal.returns-in-Err-Fault-clause-only
returns-in-Err-Fault-clause-only c = λ label behind name e is.
    absurd (no_fault c.in-Err-Fault.field-0 c.in-Err-Fault.field-0-is (c.in-Err-Fault.ensures.only label (45 ∷ behind) name e is (minus_ends behind)))
