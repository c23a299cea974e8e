use Rattle.std.proofs.Common.{◌≡◌, true, false, refl}
use Rattle.std.specs.Str.{is_utf8}
use Rattle.std.proofs.lemmas.Str.{is_utf8-from_IsUtf8}
use Rattle.gt_read.proofs.Texts.{not_utf8}
use Rattle.gt_read.proofs.slots.take_text.Goals as goal

pub returns-in_ok-slot-in-Ok : goal.returns-in_ok-slot-in-Ok
returns-in_ok-slot-in-Ok c =
    let good : is_utf8 c.in-Bytes.run'.bytes.now ≡ true = is_utf8-from_IsUtf8 _ c.in-Ok.ensures.cases.1 in
    (rw (c.in-Bytes.is, c.in_ok-slot-in-Ok.ensures) c.in-Ok.ensures.cases.0, rw (c.in-Bytes.is, good) refl)

pub returns-in-Err : goal.returns-in-Err
returns-in-Err c =
    let bad : is_utf8 c.in-Bytes.run'.bytes.now ≡ false = not_utf8 c.in-Bytes.run'.bytes.now c.in-Err.ensures.cases.0 in
    rw (c.in-Bytes.is, bad) refl
