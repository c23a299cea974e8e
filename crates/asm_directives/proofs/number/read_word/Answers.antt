use Rattle.std.proofs.Common.{◌<◌, ◌^◌, ℕ}
use Rattle.asm_directives.proofs.Numbers.{wanted, wanted_none}
use Rattle.asm_directives.proofs.number.read_word.Goals as goal

pub returns-in-Some : goal.returns-in-Some
returns-in-Some c = wanted (λ (n : ℕ). n < 2 ^ 32) c.args.word.now c.in-Some.number c.fitting.result c.in-Some.ensures c.fitting.ensures

pub returns-in-None : goal.returns-in-None
returns-in-None c = wanted_none (λ (n : ℕ). n < 2 ^ 32) c.args.word.now c.in-None.ensures
