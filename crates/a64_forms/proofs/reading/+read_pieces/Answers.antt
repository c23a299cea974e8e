use Rattle.std.proofs.Common.{◌≡◌, ◌∷◌}
use Rattle.a64_forms.specs.Spelling.{held, piece}
use Rattle.a64_forms.proofs.Lists.{no_first, no_rest, no_text, pieces_some}
use Rattle.a64_forms.proofs.Pieces.{any_none}
use Rattle.a64_forms.proofs.reading.+read_pieces.Goals as goal

pub returns-in_err-first-in-Some-split_first-clause-none : goal.returns-in_err-first-in-Some-split_first-clause-none
returns-in_err-first-in-Some-split_first-clause-none t c =
    let e : c.args.texts.now ≡ c.as_slice.result.now ∷ c.in-Some-split_first.texts.now = cc (c.in-Some-split_first.ensures.cases.0, c.as_slice.ensures) in
    any_none
    c.from_residual.result _
    (no_first c.args.numbers c.args.rows.now c.in-Some.rows.now c.in-Some.row.now (λ p. piece p.0.now p.1 p.2.now) c.args.texts.now c.in-Some-split_first.texts.now c.as_slice.result.now c.in-Some.ensures.cases.0 e c.in_err-first-in-Some-split_first.ensures.none)

pub returns-in_err-rest-in-Some-split_first-clause-none : goal.returns-in_err-rest-in-Some-split_first-clause-none
returns-in_err-rest-in-Some-split_first-clause-none t c =
    let e : c.args.texts.now ≡ c.as_slice.result.now ∷ c.in-Some-split_first.texts.now = cc (c.in-Some-split_first.ensures.cases.0, c.as_slice.ensures) in
    any_none
    c.from_residual-in_err-rest-in-Some-split_first.result _
    (no_rest c.args.numbers c.args.rows.now c.in-Some.rows.now c.in-Some.row.now (λ p. piece p.0.now p.1 p.2.now) c.args.texts.now c.in-Some-split_first.texts.now c.as_slice.result.now c.in-Some.ensures.cases.0 e c.in_err-rest-in-Some-split_first.ensures.none)

pub returns-in-None-split_first-clause-none : goal.returns-in-None-split_first-clause-none
returns-in-None-split_first-clause-none t c =
    no_text c.args.numbers c.args.rows.now c.in-Some.rows.now c.in-Some.row.now (λ p. piece p.0.now p.1 p.2.now) c.args.texts.now c.in-Some.ensures.cases.0 c.in-None-split_first.ensures.cases

pub returns-in_ok-rest-in-Some-split_first-clause-some : goal.returns-in_ok-rest-in-Some-split_first-clause-some
returns-in_ok-rest-in-Some-split_first-clause-some t c =
    let e : c.args.texts.now ≡ c.as_slice.result.now ∷ c.in-Some-split_first.texts.now = cc (c.in-Some-split_first.ensures.cases.0, c.as_slice.ensures) in
    pieces_some c.args.numbers
    c.args.rows.now c.in-Some.rows.now c.in-Some.row.now (λ p. piece p.0.now p.1 p.2.now) c.args.texts.now c.in-Some-split_first.texts.now c.as_slice.result.now
    (held c.in_ok-first-in-Some-split_first.first) (held c.in_ok-rest-in-Some-split_first.rest) (held c.both.result)
    c.in-Some.ensures.cases.0 e c.in_ok-first-in-Some-split_first.ensures.some c.in_ok-rest-in-Some-split_first.ensures.some c.both.ensures
