-- The word that an expression makes has the operand's number of units, which fits the operand's bits.
use Rattle.std.proofs.Common.{◌≡◌, ℕ, ◌+◌, ◌^◌, ◌<◌, ℤ, pos, negsuc, Bool, true, false, not, Some, Result, Ok, Err, subst, arith}
use Rattle.std.specs.Prelude.{unsigned_abs, if◌then◌else◌}
use Rattle.std.specs.Int.{int_div_euclid, int_rem_euclid}
use Rattle.std.specs.Option.{option_map}
use Rattle.std.proofs.lemmas.Nat.{mod_below, pow_pos}
use Rattle.a64_inst.specs.declared.filling.FitFault.{FitFault}
use Rattle.a64_inst.specs.declared.filling.FitFault.TheVariants.{Range, Unaligned}
use Rattle.a64_inst.specs.declared.kind.Kind.{Kind}
use Rattle.a64_inst.specs.declared.kind.Operand.{Operand}
use Rattle.a64_inst.specs.Fitting.{fit, is_in_range, is_aligned, operand_value, units_of, with_operand}
use Rattle.a64_inst.specs.Kinds.{operand, operand_kind}
use Rattle.a64_inst.specs.Table.{row}
use Rattle.a64_filled.specs.Filled.{with_number}
use Rattle.a64_filled.proofs.Each.{operand_changes}

rest_small : (z : ℤ) (k : ℕ) → unsigned_abs (int_rem_euclid z (pos (2 ^ k))) < 2 ^ k
rest_small (pos a) k = mod_below a (2 ^ k) (pow_pos k)
rest_small (negsuc a) k = omega (arith, pow_pos k)

pub units_small : (o : Operand) (value : ℤ) → units_of o value < 2 ^ (o.low.width + o.high.width)
units_small o value = rest_small (int_div_euclid value (pos o.unit)) (o.low.width + o.high.width)

ok_is : (m n : ℕ) → ◌≡◌ {A = Result ℕ FitFault} (Ok m) (Ok n) → m ≡ n
ok_is m n e = cc

err_not : (f : FitFault) (n : ℕ) → ◌≡◌ {A = Result ℕ FitFault} (Err f) (Ok n) → ⊥
err_not f n e = cc

where_ok : (a b : Bool) (f g : FitFault) (m n : ℕ) → ◌≡◌ {A = Result ℕ FitFault} (if not a then Err f else if not b then Err g else Ok m) (Ok n) → m ≡ n
where_ok true true f g m n e = ok_is m n e
where_ok true false f g m n e = absurd (err_not g n e)
where_ok false b f g m n e = absurd (err_not f n e)

pub filled_is : (kind : Kind) (place target word filled : ℕ) → fit kind place target word ≡ Ok filled → with_operand (operand kind) (units_of (operand kind) (operand_value kind place target)) word ≡ filled
filled_is kind place target word filled e =
    where_ok (is_in_range (operand kind) (operand_value kind place target)) (is_aligned (operand kind) (operand_value kind place target)) (Range (operand_value kind place target)) (Unaligned (operand_value kind place target))
    (with_operand (operand kind) (units_of (operand kind) (operand_value kind place target)) word) filled e

pub filled_keeps : (kind : Kind) (place target word filled : ℕ) → operand_kind word ≡ Some kind → fit kind place target word ≡ Ok filled → row filled ≡ option_map (with_number (units_of (operand kind) (operand_value kind place target))) (row word)
filled_keeps kind place target word filled e f =
    let n : ℕ = units_of (operand kind) (operand_value kind place target) in
    let P : ℕ → Type 0 = λ w. row w ≡ option_map (with_number n) (row word) in
    subst P (filled_is kind place target word filled f) (operand_changes kind word n e (units_small (operand kind) (operand_value kind place target)))
