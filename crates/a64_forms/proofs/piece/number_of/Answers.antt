use Rattle.std.proofs.Common.{rules}
use Rattle.std.specs.Int.{w128}
use Rattle.std.proofs.lemmas.Int.{to_z-of_z}
use mir.Val.{SFits}
use Rattle.a64_forms.proofs.Immediates.{number_some, number_none, no_number}
use Rattle.a64_forms.proofs.Pieces.{any_none}
use Rattle.a64_forms.proofs.piece.number_of.Goals as goal

pub returns-in_err-value-clause-none : goal.returns-in_err-value-clause-none
returns-in_err-value-clause-none c = any_none c.from_residual.result _ (no_number c.args.operand c.args.text.now c.in_err-value.ensures)

pub returns-clause-some : goal.returns-clause-some
returns-clause-some c =
    let fits : SFits w128 c.in_ok-value.value = search rules in
    let e = simp to_z-of_z at c.number_bits.ensures in
    number_some c.args.operand c.args.text.now c.in_ok-value.value c.number_bits.result c.in_ok-value.ensures e

pub returns-clause-none : goal.returns-clause-none
returns-clause-none c =
    let fits : SFits w128 c.in_ok-value.value = search rules in
    let e = simp to_z-of_z at c.number_bits.ensures in
    number_none c.args.operand c.args.text.now c.in_ok-value.value c.number_bits.result c.in_ok-value.ensures e
