use Rattle.std.proofs.Common.{ℕ, ℤ, pos, ◌-ℤ◌, rules}
use Rattle.std.specs.Int.{w128}
use Rattle.std.proofs.lemmas.Int.{to_z-of_z}
use mir.Val.{SFits}
use Rattle.a64_forms.proofs.Immediates.{Reads, reads_some, reads_none}
use Rattle.a64_forms.proofs.piece.read_positive.Goals as goal

pub returns-in-Some : goal.returns-in-Some
returns-in-Some c =
    let fits : SFits w128 c.positive.result = search rules in
    simp to_z-of_z (reads_some (λ n. pos n) c.args.digits.now c.in-Some.number c.positive.result c.in-Some.ensures c.positive.ensures)

pub returns-in-None : goal.returns-in-None
returns-in-None c = reads_none (λ n. pos n) c.args.digits.now c.in-None.ensures
