use Rattle.std.proofs.Common.{ℕ, ◌≡◌, ◌*◌, ◌%◌, ◌^◌, ◌≤◌, pos, rules, arith, ap, ◌∙◌}
use Rattle.std.specs.Int.{w128, cast_signed}
use Rattle.std.proofs.Math.Nat.{pow-le-pow_right}
use Rattle.std.proofs.lemmas.Int.{to_z-of_z, to_z_pos}
use Rattle.std.proofs.lemmas.Nat.{one_shl}
use mir.Val.{SFits}
use Rattle.sym_expr.proofs.difference.units_of.Goals as goal

-- what so many bytes hold fits eight of them
most : (size : ℕ) → size ≤ 8 → 2 ^ (8 * size) ≤ 2 ^ 64
most size few = pow-le-pow_right {n = 2} (omega arith) {i = 8 * size} {j = 64} (omega arith)

-- that number, as it is computed
all : (size : ℕ) → size ≤ 8 → cast_signed w128 (1 * 2 ^ (8 * size) % 340282366920938463463374607431768211456) ≡ pos (2 ^ (8 * size))
all size few = ap (cast_signed w128) (one_shl (8 * size) 128 (omega arith)) ∙ to_z_pos w128 (2 ^ (8 * size)) (omega (arith, most size few))

pub overflow_cast-result : goal.overflow_cast-result
overflow_cast-result c =
    let bound = simp (all c.args.form.size c.requires.size) at c.rem_euclid.ensures.upper_bound in
    let rest : SFits w128 c.rem_euclid.result = search rules in
    let value = simp to_z-of_z at c.unsigned_abs.ensures.value in
    omega (arith, bound, value, most c.args.form.size c.requires.size)

pub returns : goal.returns
returns c =
    let value : SFits w128 c.args.diff = search rules in
    let unit : SFits w128 c.from.result = search rules in
    let units : SFits w128 c.div_euclid-units.result = search rules in
    let rest : SFits w128 c.rem_euclid.result = search rules in
    let a = simp to_z-of_z at c.unsigned_abs.ensures.value in
    let b = simp (to_z-of_z, all c.args.form.size c.requires.size) at c.rem_euclid.ensures.value in
    let d = simp to_z-of_z at c.div_euclid-units.ensures in
    cc (c.from.ensures)
