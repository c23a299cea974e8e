use Rattle.std.proofs.Common.{inl}
use Rattle.a64_forms.specs.Spelling.{OneSpells, Spelled, held, immediates, registers}
use Rattle.a64_forms.proofs.OfForms.{none_of_two, second_some}
use Rattle.a64_forms.proofs.reading.read_data.Goals as goal

pub returns-in-Some-clause-some : goal.returns-in-Some-clause-some
returns-in-Some-clause-some c = inl c.in-Some.ensures.some

pub returns-in-None-clause-some : goal.returns-in-None-clause-some
returns-in-None-clause-some c = second_some (λ (s : Spelled). OneSpells c.args.numbers immediates c.args.texts.now s) (λ (s : Spelled). OneSpells c.args.numbers registers c.args.texts.now s) c.read_registers.result held c.read_registers.ensures.some

pub returns-in-None-clause-none : goal.returns-in-None-clause-none
returns-in-None-clause-none c = none_of_two (λ (s : Spelled). OneSpells c.args.numbers immediates c.args.texts.now s) (λ (s : Spelled). OneSpells c.args.numbers registers c.args.texts.now s) c.read_registers.result c.in-None.ensures.none c.read_registers.ensures.none
