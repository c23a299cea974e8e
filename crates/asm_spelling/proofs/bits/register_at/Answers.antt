use Rattle.std.proofs.Common.{ℕ, ◌%◌, ◌^◌, ap, sym, arith}
use Rattle.asm_spelling.proofs.Wide.{mod_far, div_far, placed_far}
use Rattle.asm_spelling.proofs.bits.register_at.Goals as goal

pub returns-else-place-lt32 : goal.returns-else-place-lt32
returns-else-place-lt32 c = sym (ap (λ (n : ℕ). n % 2 ^ 5) (div_far c.args.word c.args.place (omega (arith, c.ranges.word)) (omega (arith, c.if-place-lt32.false))))
