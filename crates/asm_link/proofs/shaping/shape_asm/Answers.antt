use Rattle.std.proofs.Common.{arith}
use Rattle.asm_modules.specs.Valid.{interval_size}
use Rattle.asm_link.proofs.Lists.{item_most}
use Rattle.asm_link.proofs.Shapes.{shape_is}
use Rattle.asm_link.proofs.shaping.shape_asm.Goals as goal

pub spot_of-requires : goal.spot_of-requires
spot_of-requires c =
    let most = item_most interval_size c.args.asm.now.intervals c.loop-interval.interval-index c.interval-item.result (rw c.as_slice-interval-items.ensures at c.loop-interval-test.true) (rw c.as_slice-interval-items.ensures at c.interval-item.is) in
    omega (arith, most, c.requires.sizes)

pub returns-clause-shape : goal.returns-clause-shape
returns-clause-shape c = shape_is c.args.asm.now c.requires
