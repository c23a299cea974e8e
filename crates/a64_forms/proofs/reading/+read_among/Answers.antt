use Rattle.std.proofs.Common.{map}
use Rattle.a64_forms.specs.Names.{name}
use Rattle.a64_forms.specs.Spelling.{form, held, piece}
use Rattle.a64_forms.proofs.OfForms.{first_spells, later_spells, no_forms, none_spells}
use Rattle.a64_forms.proofs.reading.+read_among.Goals as goal

pub returns-in-None-clause-none : goal.returns-in-None-clause-none
returns-in-None-clause-none t c = no_forms c.args.numbers c.args.rows.now (λ f. form (map (λ n. name n.0.now n.1) f.0.now) (map (λ p. piece p.0.now p.1 p.2.now) f.1.now) f.2.now) c.args.texts.now c.in-None.ensures.cases

pub returns-in-Some-read_form-clause-some : goal.returns-in-Some-read_form-clause-some
returns-in-Some-read_form-clause-some t c = first_spells c.args.numbers c.args.rows.now c.in-Some.rows.now c.in-Some.row.now (λ f. form (map (λ n. name n.0.now n.1) f.0.now) (map (λ p. piece p.0.now p.1 p.2.now) f.1.now) f.2.now) c.args.texts.now (held c.in-Some-read_form.share) c.in-Some.ensures.cases.0 c.in-Some-read_form.ensures.some

pub returns-in-None-read_form-clause-some : goal.returns-in-None-read_form-clause-some
returns-in-None-read_form-clause-some t c = later_spells c.args.numbers c.args.rows.now c.in-Some.rows.now c.in-Some.row.now (λ f. form (map (λ n. name n.0.now n.1) f.0.now) (map (λ p. piece p.0.now p.1 p.2.now) f.1.now) f.2.now) c.args.texts.now c.read_among.result held c.in-Some.ensures.cases.0 c.read_among.ensures.some

pub returns-in-None-read_form-clause-none : goal.returns-in-None-read_form-clause-none
returns-in-None-read_form-clause-none t c = none_spells c.args.numbers c.args.rows.now c.in-Some.rows.now c.in-Some.row.now (λ f. form (map (λ n. name n.0.now n.1) f.0.now) (map (λ p. piece p.0.now p.1 p.2.now) f.1.now) f.2.now) c.args.texts.now c.read_among.result c.in-Some.ensures.cases.0 c.in-None-read_form.ensures.none c.read_among.ensures.none
