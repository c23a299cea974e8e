use Rattle.std.proofs.Common.{List, ℕ, refl, subst, sym}
use Rattle.asm_lines.specs.Labels.{AreOrdinal}
use Rattle.asm_lines.proofs.Fronts.{no_some, same_digits}
use Rattle.asm_lines.proofs.label.read_digits.Goals as goal

pub returns-in-Some-clause-found : goal.returns-in-Some-clause-found
returns-in-Some-clause-found c = (c.split_run.result.0.now, c.in-Some.ordinal, c.split_run.ensures.parts, refl, (c.in-Some.ensures c.in-Some.ordinal).0 refl)

pub returns-in-Some-clause-only : goal.returns-in-Some-clause-only
returns-in-Some-clause-only c = λ digits rest k e is ends.
    let q = same_digits c.args.text.now c.split_run.result.0.now c.split_run.result.1.now digits rest k c.split_run.ensures.parts c.split_run.ensures.run c.split_run.ensures.stops e is ends in
    ((c.in-Some.ensures k).1 (subst (λ (ds : List ℕ). AreOrdinal ds k) (sym q.0) is), q.1)

pub returns-in-None-clause-only : goal.returns-in-None-clause-only
returns-in-None-clause-only c = λ digits rest k e is ends.
    let q = same_digits c.args.text.now c.split_run.result.0.now c.split_run.result.1.now digits rest k c.split_run.ensures.parts c.split_run.ensures.run c.split_run.ensures.stops e is ends in
    absurd (no_some k ((c.in-None.ensures k).1 (subst (λ (ds : List ℕ). AreOrdinal ds k) (sym q.0) is)))
