use Rattle.std.proofs.Common.{◌≡◌, ◌++◌, ◌∷◌, ◌∙◌, List, ℕ, Option, Some, ap, refl, subst, sym}
use Rattle.std.specs.Prelude.{IsSomeAnd}
use Rattle.asm_lines.specs.Labels.{AreOrdinal, IsOrdinal}
use Rattle.asm_lines.proofs.Fronts.{behind_sharp, mapped_some, without_sharp}
use Rattle.asm_lines.proofs.label.read_ordinal.Goals as goal

pub returns-in-Some-clause-found : goal.returns-in-Some-clause-found
returns-in-Some-clause-found c = mapped_some
    c.read_digits.result
    (λ x. (digits : List ℕ) × (k : ℕ) × (c.in-Some.digits.now ≡ digits ++ x.1.now) × (x.0 ≡ Some k) × AreOrdinal digits k)
    (λ x. (word : List ℕ) × (c.args.text.now ≡ word ++ x.1.now) × IsOrdinal word x.0)
    (λ x h. (35 ∷ h.0, c.in-Some.ensures ∙ ap (λ (t : List ℕ). 35 ∷ t) h.2, subst (λ (o : Option ℕ). IsOrdinal (35 ∷ h.0) o) (sym h.3) (h.0, refl, h.4)))
    c.read_digits.ensures.found

pub returns-in-Some-clause-only : goal.returns-in-Some-clause-only
returns-in-Some-clause-only c = λ word rest ordinal e is ends.
    let q = behind_sharp c.args.text.now c.in-Some.digits.now word rest ordinal c.in-Some.ensures e is ends in
    subst (λ (o : Option ℕ). IsSomeAnd c.read_digits.result (λ x. (x.0 ≡ o) × (x.1.now ≡ rest))) (sym q.2) (c.read_digits.ensures.only q.0 rest q.1 q.3 q.4 ends)

pub returns-in-None-clause-only : goal.returns-in-None-clause-only
returns-in-None-clause-only c = λ word rest ordinal e is ends. without_sharp c.args.text.now word rest ordinal c.in-None.ensures e is
