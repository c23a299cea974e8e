use Rattle.std.proofs.Common.{rules}
use Rattle.std.specs.Int.{w128}
use Rattle.std.proofs.lemmas.Int.{to_z-of_z}
use mir.Val.{SFits}
use Rattle.a64_inst.proofs.filling.fit.Goals as goal

pub returns-else-not-is_aligned : goal.returns-else-not-is_aligned
returns-else-not-is_aligned c =
    let value : SFits w128 c.operand_value-value.result = search rules in
    let units = simp to_z-of_z at c.units_of.ensures.units in
    let aligned = simp to_z-of_z at c.is_aligned.ensures in
    let range = simp to_z-of_z at c.is_in_range.ensures in
    search (rules, units, aligned, range, c.with_operand.ensures)
