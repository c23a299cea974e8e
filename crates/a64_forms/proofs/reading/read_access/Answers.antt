use Rattle.std.proofs.Common.{inl}
use Rattle.a64_forms.specs.Spelling.{IsWide, OneSpells, Spelled, accesses, held}
use Rattle.a64_forms.proofs.OfForms.{none_of_two, second_some}
use Rattle.a64_forms.proofs.reading.read_access.Goals as goal

pub returns-in-Some-clause-some : goal.returns-in-Some-clause-some
returns-in-Some-clause-some c = inl c.in-Some.ensures.some

pub returns-in-None-clause-some : goal.returns-in-None-clause-some
returns-in-None-clause-some c = second_some (λ (s : Spelled). OneSpells c.args.numbers accesses c.args.texts.now s) (λ (s : Spelled). IsWide c.args.numbers c.args.texts.now s) c.read_wide.result held c.read_wide.ensures.some

pub returns-in-None-clause-none : goal.returns-in-None-clause-none
returns-in-None-clause-none c = none_of_two (λ (s : Spelled). OneSpells c.args.numbers accesses c.args.texts.now s) (λ (s : Spelled). IsWide c.args.numbers c.args.texts.now s) c.read_wide.result c.in-None.ensures.none c.read_wide.ensures.none
