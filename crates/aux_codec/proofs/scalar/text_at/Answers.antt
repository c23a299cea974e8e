use Rattle.std.proofs.Common.{◌≡◌, true, false, refl}
use Rattle.std.specs.Str.{is_utf8}
use Rattle.std.proofs.lemmas.Bool.{false_from_ne_true}
use Rattle.std.proofs.lemmas.Str.{is_utf8-from_IsUtf8, IsUtf8-from_is_utf8}
use Rattle.aux_codec.specs.Reading.{string}
use Rattle.aux_codec.proofs.Views.{value_str}
use Rattle.aux_codec.proofs.Scalars.{scalar_takes}
use Rattle.aux_codec.proofs.Takes.{value_takes}
use Rattle.aux_codec.proofs.Again.{value_again}
use Rattle.aux_codec.proofs.scalar.text_at.Goals as goal

pub returns-in_ok-from_str-in-Ok : goal.returns-in_ok-from_str-in-Ok
unfolding string
returns-in_ok-from_str-in-Ok c =
    let utf8 : is_utf8 c.in_ok-front.front.now ≡ true = is_utf8-from_IsUtf8 c.in_ok-front.front.now c.in-Ok.ensures.cases.1 in
    rw (c.in_ok-size.ensures, c.in_ok-front.ensures.read, utf8, value_str, c.in_ok-from_str-in-Ok.ensures, c.in-Ok.ensures.cases.0) refl

pub returns-in-Err : goal.returns-in-Err
unfolding string
returns-in-Err c =
    let no_utf8 : is_utf8 c.in_ok-front.front.now ≡ false = false_from_ne_true (is_utf8 c.in_ok-front.front.now) (λ e. c.in-Err.ensures.cases.0 (IsUtf8-from_is_utf8 c.in_ok-front.front.now e)) in
    rw (c.in_ok-size.ensures, c.in_ok-front.ensures.read, no_utf8, c.place.ensures) refl
