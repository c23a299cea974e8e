use Rattle.std.proofs.Common.{◌≤◌, ℕ}
use Rattle.asm_directives.proofs.Numbers.{kept_iff, wanted, wanted_none}
use Rattle.asm_directives.proofs.number.read_upto.Goals as goal

pub returns-in-Some : goal.returns-in-Some
returns-in-Some c = wanted (λ (n : ℕ). n ≤ c.args.most) c.args.word.now c.in-Some.number c.kept.result c.in-Some.ensures (kept_iff (c.in-Some.number ≤ c.args.most) c.in-Some.number c.is_upto.result c.kept.result c.kept.ensures c.is_upto.ensures)

pub returns-in-None : goal.returns-in-None
returns-in-None c = wanted_none (λ (n : ℕ). n ≤ c.args.most) c.args.word.now c.in-None.ensures
