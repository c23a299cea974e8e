use Rattle.std.proofs.Common.{arith}
use Rattle.a64_numbers.proofs.Powers.{rotation, copied}
use Rattle.a64_numbers.proofs.shifts.shifted_64.Goals as goal

pub returns-in-2 : goal.returns-in-2
returns-in-2 c =
    let same = copied 64 c.args.amount c.args.a (omega arith) c.ranges.a.fits in
    let shift = rw c.cast_signed.ensures at c.cast_unsigned.ensures in
    rw c.in-2.is (grind (arith, same, shift))

pub returns-in_default : goal.returns-in_default
returns-in_default c =
    let same = rotation 64 c.args.amount c.args.a c.requires c.ranges.a.fits in
    let turn = rw c.from.ensures at c.rotate_right.ensures in
    grind (arith, same, turn)
