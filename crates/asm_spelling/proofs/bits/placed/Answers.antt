use Rattle.std.proofs.Common.{ℕ, ◌%◌, ◌^◌, ap, sym, arith}
use Rattle.asm_spelling.proofs.Wide.{mod_far, div_far, placed_far}
use Rattle.asm_spelling.proofs.bits.placed.Goals as goal

pub returns-else-place-lt32 : goal.returns-else-place-lt32
returns-else-place-lt32 c = sym (placed_far c.args.number c.args.place (omega (arith, c.if-place-lt32.false)))
