use Rattle.std.proofs.Common.{◌<◌, ◌≤◌, length, refl, sym, ap, arith, rules}
use Rattle.std.proofs.lemmas.Int.{to_z-of_z}
use mir.Syntax.{w32}
use mir.Val.{SFits}
use Rattle.std.proofs.lemmas.List.{length-drop, nil_from_length}
use Rattle.std.proofs.lemmas.Bool.{eqb-true}
use Rattle.gt_read.specs.Faults.{first_of}
use Rattle.gt_read.proofs.PackedRuns.{unpacks_next, unpacked, not_packed, not_empty}
use Rattle.gt_read.proofs.packed.take_packed.Goals as goal

pub loop-rest-smaller : goal.loop-rest-smaller
loop-rest-smaller c =
    let one = c.varints_are_read.ensures.some c.loop-rest.rest.now c.in-Ok.number c.in-Ok.size (sym c.in-Ok.ensures.value) in
    let fits : c.in-Ok.size ≤ length c.loop-rest.rest.now = c.in-Ok.ensures.within in
    let small : length c.split_at.result.1.now < length c.loop-rest.rest.now = rw c.split_at.ensures.back (omega (arith, length-drop c.in-Ok.size c.loop-rest.rest.now)) in
    small

pub loop-rest-preserved : goal.loop-rest-preserved
loop-rest-preserved c =
    let fits : SFits w32 c.cast_signed.result = search rules in
    rw c.split_at.ensures.back (unpacks_next c.varints_are_read.ensures.some c.args.slot.now c.args.bytes.now c.loop-rest.rest.now c.loop-rest.slot (c.in-Ok.number, c.in-Ok.size) c.push.new.self c.loop-rest.invariant (sym c.in-Ok.ensures.value) (rw (c.in_ok-push-in-Ok.ensures.ok, to_z-of_z, c.cast_signed.ensures, c.low.ensures) refl))

pub returns-in-Err : goal.returns-in-Err
returns-in-Err c =
    ap first_of (not_packed c.args.slot.now c.args.bytes.now c.loop-rest.rest.now c.loop-rest.slot c.args.place c.in-Err.reason c.loop-rest.invariant (not_empty c.loop-rest.rest.now c.loop-rest-test.ensures) (sym c.in-Err.ensures.value))

pub returns : goal.returns
returns c =
    unpacked c.args.slot.now c.args.bytes.now c.loop-rest.rest.now c.loop-rest.slot c.args.place c.loop-rest.invariant (nil_from_length c.loop-rest.rest.now (eqb-true _ _ (sym c.loop-rest-test.ensures)))
