use Rattle.std.proofs.Common.{◌≡◌, ◌+◌, ◌*◌, ◌%◌, ◌^◌, rules}
use Rattle.std.specs.Int.{w128}
use Rattle.std.proofs.lemmas.Int.{to_z-of_z}
use Rattle.std.proofs.lemmas.Nat.{one_shl}
use mir.Val.{SFits}
use Rattle.a64_inst.proofs.filling.units_of.Goals as goal

pub returns-clause-units : goal.returns-clause-units
returns-clause-units c =
    let value : SFits w128 c.args.value = search rules in
    let unit : SFits w128 c.from.result = search rules in
    let units : SFits w128 c.div_euclid-units.result = search rules in
    let all : SFits w128 c.from-2.result = search rules in
    let rest : SFits w128 c.rem_euclid.result = search rules in
    let size : 1 * 2 ^ (c.args.operand.low.width + c.args.operand.high.width) % 4294967296 ≡ 2 ^ (c.args.operand.low.width + c.args.operand.high.width) = one_shl _ 32 c.requires.width in
    let a = simp to_z-of_z at c.unsigned_abs.ensures.value in
    let b = simp to_z-of_z at c.rem_euclid.ensures.value in
    let d = simp to_z-of_z at c.div_euclid-units.ensures in
    cc (c.from.ensures, c.from-2.ensures)
