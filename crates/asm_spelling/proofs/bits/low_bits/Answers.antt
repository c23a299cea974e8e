use Rattle.std.proofs.Common.{ℕ, ◌%◌, ◌^◌, ap, sym, arith}
use Rattle.asm_spelling.proofs.Wide.{mod_far, div_far, placed_far}
use Rattle.asm_spelling.proofs.bits.low_bits.Goals as goal

pub returns-else-width-lt32 : goal.returns-else-width-lt32
returns-else-width-lt32 c = sym (mod_far c.args.number c.args.width (omega (arith, c.ranges.number)) (omega (arith, c.if-width-lt32.false)))
