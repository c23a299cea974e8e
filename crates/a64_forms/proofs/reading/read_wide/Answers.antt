use Rattle.std.proofs.Common.{inl}
use Rattle.a64_forms.specs.Spelling.{OneSpells, Spelled, held, indexed, pairs}
use Rattle.a64_forms.proofs.OfForms.{none_of_two, second_some}
use Rattle.a64_forms.proofs.reading.read_wide.Goals as goal

pub returns-in-Some-clause-some : goal.returns-in-Some-clause-some
returns-in-Some-clause-some c = inl c.in-Some.ensures.some

pub returns-in-None-clause-some : goal.returns-in-None-clause-some
returns-in-None-clause-some c = second_some (λ (s : Spelled). OneSpells c.args.numbers indexed c.args.texts.now s) (λ (s : Spelled). OneSpells c.args.numbers pairs c.args.texts.now s) c.read_pairs.result held c.read_pairs.ensures.some

pub returns-in-None-clause-none : goal.returns-in-None-clause-none
returns-in-None-clause-none c = none_of_two (λ (s : Spelled). OneSpells c.args.numbers indexed c.args.texts.now s) (λ (s : Spelled). OneSpells c.args.numbers pairs c.args.texts.now s) c.read_pairs.result c.in-None.ensures.none c.read_pairs.ensures.none
