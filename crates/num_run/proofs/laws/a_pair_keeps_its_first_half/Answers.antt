use Rattle.std.proofs.Common.{◌∙◌, refl}
use Rattle.num_run.proofs.Accesses.{pair_plain_is}
use Rattle.num_run.proofs.laws.a_pair_keeps_its_first_half.Goals as goal

pub returns : goal.returns
returns c = λ m first opc imm7 rt2 rn rt stored faults. pair_plain_is opc 2 0 imm7 rt2 rn rt m refl ∙ rw (stored, faults) refl
