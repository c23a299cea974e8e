use Rattle.std.proofs.Common.{ℕ, ◌%◌, ◌^◌, ap, sym, arith}
use Rattle.asm_spelling.proofs.Wide.{mod_far, div_far, placed_far}
use Rattle.asm_spelling.proofs.bits.high_bits.Goals as goal

pub returns-else-width-lt32 : goal.returns-else-width-lt32
returns-else-width-lt32 c = sym (div_far c.args.number c.args.width (omega (arith, c.ranges.number)) (omega (arith, c.if-width-lt32.false)))
