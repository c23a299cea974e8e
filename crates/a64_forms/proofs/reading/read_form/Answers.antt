use Rattle.std.proofs.Common.{◌≡◌, ◌∷◌, ◌∙◌, map, sym}
use Rattle.a64_forms.specs.Names.{name}
use Rattle.a64_forms.specs.Spelling.{form, held, piece}
use Rattle.a64_forms.proofs.OfForms.{no_pieces, no_texts, no_word, not_apart, spells}
use Rattle.a64_forms.proofs.Pieces.{any_none}
use Rattle.a64_forms.proofs.reading.read_form.Goals as goal

pub returns-in_err-word-in-Some-clause-none : goal.returns-in_err-word-in-Some-clause-none
returns-in_err-word-in-Some-clause-none c =
    let e : c.args.texts.now ≡ c.as_slice.result.now ∷ c.in-Some.texts.now = cc (c.in-Some.ensures.cases.0, c.as_slice.ensures) in
    any_none
    c.from_residual.result _
    (no_word c.args.numbers (form (map (λ n. name n.0.now n.1) c.args.row.0.now) (map (λ p. piece p.0.now p.1 p.2.now) c.args.row.1.now) c.args.row.2.now) c.args.texts.now c.in-Some.texts.now c.as_slice.result.now e (sym c.named_bits.ensures ∙ c.in_err-word-in-Some.was))

pub returns-in_err-rest-in-Some-clause-none : goal.returns-in_err-rest-in-Some-clause-none
returns-in_err-rest-in-Some-clause-none c =
    let e : c.args.texts.now ≡ c.as_slice.result.now ∷ c.in-Some.texts.now = cc (c.in-Some.ensures.cases.0, c.as_slice.ensures) in
    any_none
    c.from_residual-in_err-rest-in-Some.result _
    (no_pieces c.args.numbers (form (map (λ n. name n.0.now n.1) c.args.row.0.now) (map (λ p. piece p.0.now p.1 p.2.now) c.args.row.1.now) c.args.row.2.now) c.args.texts.now c.in-Some.texts.now c.as_slice.result.now e c.in_err-rest-in-Some.ensures.none)

pub returns-in-None-clause-none : goal.returns-in-None-clause-none
returns-in-None-clause-none c = no_texts c.args.numbers (form (map (λ n. name n.0.now n.1) c.args.row.0.now) (map (λ p. piece p.0.now p.1 p.2.now) c.args.row.1.now) c.args.row.2.now) c.args.texts.now c.in-None.ensures.cases

pub returns-then-all_apart-clause-some : goal.returns-then-all_apart-clause-some
returns-then-all_apart-clause-some c =
    let e : c.args.texts.now ≡ c.as_slice.result.now ∷ c.in-Some.texts.now = cc (c.in-Some.ensures.cases.0, c.as_slice.ensures) in
    spells c.args.numbers
    (form (map (λ n. name n.0.now n.1) c.args.row.0.now) (map (λ p. piece p.0.now p.1 p.2.now) c.args.row.1.now) c.args.row.2.now) c.args.texts.now c.in-Some.texts.now c.as_slice.result.now
    c.in_ok-word-in-Some.word (held c.in_ok-rest-in-Some.rest) (held c.both-share.result) e (sym c.named_bits.ensures ∙ c.in_ok-word-in-Some.was) c.in_ok-rest-in-Some.ensures.some c.both-share.ensures
    (sym c.all_apart.ensures ∙ c.if-all_apart.true)

pub returns-else-all_apart-clause-none : goal.returns-else-all_apart-clause-none
returns-else-all_apart-clause-none c =
    let e : c.args.texts.now ≡ c.as_slice.result.now ∷ c.in-Some.texts.now = cc (c.in-Some.ensures.cases.0, c.as_slice.ensures) in
    not_apart c.args.numbers
    (form (map (λ n. name n.0.now n.1) c.args.row.0.now) (map (λ p. piece p.0.now p.1 p.2.now) c.args.row.1.now) c.args.row.2.now) c.args.texts.now c.in-Some.texts.now c.as_slice.result.now
    c.in_ok-word-in-Some.word (held c.in_ok-rest-in-Some.rest) (held c.both-share.result) e (sym c.named_bits.ensures ∙ c.in_ok-word-in-Some.was) c.in_ok-rest-in-Some.ensures.some c.both-share.ensures
    (sym c.all_apart.ensures ∙ c.if-all_apart.false)
