-- Differences of two numbers in so many bytes: what fits, its bytes, and its sign.
use Rattle.std.proofs.Common.{◌≡◌, ℕ, zero, suc, ◌+◌, ◌-◌, ◌*◌, ◌%◌, ◌^◌, ◌<◌, ◌≤◌, ◌⊎◌, inl, inr, Bool, true, false, Option, Some, None, Result, Ok, Err, ℤ, pos, negsuc, ◌+ℤ◌, ◌-ℤ◌, ◌≤ℤ◌, unsigned_abs, int_le, refl, sym, ap, subst, ◌∙◌, arith, lit≤}
use Rattle.std.specs.Prelude.{not, ◌==◌, ◌&&◌, if◌then◌else◌}
use Rattle.std.specs.Int.{int_div_euclid, int_rem_euclid}
use Rattle.std.specs.Option.{option_map_or}
use Rattle.std.specs.List.{AllByRecursion as Every}
use Rattle.std.proofs.Math.Nat.{div-one, pow-suc}
use Rattle.std.proofs.lemmas.Bool.{and_parts, cases_lt, eqb-true, cond-true, cond-false, le-leb, lt-leb, false≢true}
use Rattle.std.proofs.lemmas.Int.{ints, int_rem_euclid_is}
use Rattle.std.proofs.lemmas.Nat.{pow-add, pow_pos}
use Rattle.a64_inst.specs.declared.filling.FitFault.{FitFault}
use Rattle.a64_inst.specs.declared.filling.FitFault.TheVariants.{Range, Unaligned}
use Rattle.a64_inst.specs.Numbers.{is_negative, low, sign_extended}
use Rattle.sym_expr.specs.declared.difference.DifferenceForm.{DifferenceForm}
use Rattle.sym_expr.specs.declared.difference.TheConstants.{DIFFERENCE_FORMS}
use Rattle.sym_expr.specs.Differences.{diff_fit, difference_form, fit_form, has, is_aligned, is_in_range, units_of}
use Rattle.sym_expr.specs.Images.{bytes_of}
use Rattle.sym_expr.specs.States.{less}
use Rattle.sym_expr.specs.Symbolic.{wrapped}
use Rattle.placed_images.proofs.Lists.{found_one}
use Rattle.placed_images.proofs.Numbers.{bytes_within}

-- ---- forms

-- eight bytes, or units, or a range inside that of 32 bits with a sign
abbrev IsNarrow : DifferenceForm → Type 0
IsNarrow f = ((f.size == 8) ≡ true) ⊎ (((f.scale == 1) ≡ false) ⊎ ((int_le (negsuc 2_147_483_647) f.least && int_le f.most (pos 2_147_483_647)) ≡ true))

abbrev IsKnown : DifferenceForm → Type 0
IsKnown f = (f.size ≤ 8) × IsNarrow f

forms_known : Every IsKnown DIFFERENCE_FORMS
forms_known = (
  (lit≤ tt, inr (inr refl)),
  ((lit≤ tt, inr (inl refl)), ((lit≤ tt, inr (inr refl)), ((lit≤ tt, inr (inl refl)), ((lit≤ tt, inr (inr refl)), ((lit≤ tt, inr (inl refl)), ((lit≤ tt, inl refl), tt)))))),
)

ok_is : (m n : ℕ) → ◌≡◌ {A = Result ℕ FitFault} (Ok m) (Ok n) → m ≡ n
ok_is m n e = cc

err_not : (f : FitFault) (n : ℕ) → ◌≡◌ {A = Result ℕ FitFault} (Err f) (Ok n) → ⊥
err_not f n e = cc

-- where a value fits, it is in range and its units are the number
pub fitted_in : (a b : Bool) (f g : FitFault) (m n : ℕ) → ◌≡◌ {A = Result ℕ FitFault} (if not a then Err f else if not b then Err g else Ok m) (Ok n) → (a ≡ true) × (m ≡ n)
fitted_in true true f g m n e = (refl, ok_is m n e)
fitted_in true false f g m n e = absurd (err_not g n e)
fitted_in false b f g m n e = absurd (err_not f n e)

-- the form in which a difference fits
pub record Formed (size scale : ℕ) (diff : ℤ) (n : ℕ) : Type 0 where
  pub form : DifferenceForm
  pub size_is : form.size ≡ size
  pub scale_is : form.scale ≡ scale
  pub most : form.size ≤ 8
  pub narrow : IsNarrow form
  pub range : is_in_range form diff ≡ true
  pub units : n ≡ wrapped (8 * size) (int_div_euclid diff (pos scale))

formed_in : (size scale : ℕ) (diff : ℤ) (n : ℕ) (o : Option DifferenceForm) → difference_form size scale ≡ o → option_map_or (fit_form diff) o (Err (Range diff)) ≡ Ok n → Formed size scale diff n
formed_in size scale diff n None is e = absurd (err_not (Range diff) n e)
formed_in size scale diff n (Some f) is e =
    let found = found_one (has size scale) IsKnown DIFFERENCE_FORMS f forms_known is in
    let both = and_parts (f.size == size) (f.scale == scale) found.0 in
    let size_is = eqb-true f.size size both.0 in
    let scale_is = eqb-true f.scale scale both.1 in
    let fits = fitted_in (is_in_range f diff) (is_aligned f diff) (Range diff) (Unaligned diff) (units_of f diff) n e in
    record {
      form = f;
      size_is = size_is;
      scale_is = scale_is;
      most = found.1.0;
      narrow = found.1.1;
      range = fits.0;
      units = sym fits.1 ∙ ap (λ s. unsigned_abs (int_rem_euclid (int_div_euclid diff (pos f.scale)) (pos (2 ^ (8 * s))))) size_is ∙ ap (λ s. unsigned_abs (int_rem_euclid (int_div_euclid diff (pos s)) (pos (2 ^ (8 * size))))) scale_is;
    }

pub formed : (size scale : ℕ) (diff : ℤ) (n : ℕ) → diff_fit size scale diff ≡ Ok n → Formed size scale diff n
formed size scale diff n e = formed_in size scale diff n (difference_form size scale) refl e

-- ---- bytes of a difference

div_one : (z : ℤ) → int_div_euclid z (pos 1) ≡ z
div_one (pos a) = ap pos (div-one a)
div_one (negsuc a) = ap negsuc (div-one a)

power_bytes : (k : ℕ) → 2 ^ (8 * k) ≡ 256 ^ k
power_bytes zero = refl
power_bytes (suc k) =
    let next : 8 * suc k ≡ 8 + 8 * k = omega arith in
    let more = pow-suc 256 k in
    let rest = power_bytes k in
    ap (λ n. 2 ^ n) next ∙ pow-add 2 8 (8 * k) ∙ omega arith

-- the powers of eight bytes and of fewer
all_powers : (size : ℕ) → size ≤ 8 → 2 ^ 64 ≡ 256 ^ size * 256 ^ (8 - size)
all_powers size le =
    let sum : 8 ≡ size + (8 - size) = omega arith in
    ap (λ n. 256 ^ n) sum ∙ pow-add 256 size (8 - size)

sum_is : (a b t : ℕ) → t ≡ 2 ^ 64 → b < 2 ^ 64 → pos a -ℤ pos b +ℤ pos t ≡ pos (a + (2 ^ 64 - b))
sum_is a b t e lt = omega (arith, ints)

-- a difference modulo what so many bytes hold
rest_is : (size a b : ℕ) → size ≤ 8 → b < 2 ^ 64 → unsigned_abs (int_rem_euclid (pos a -ℤ pos b) (pos (2 ^ (8 * size)))) ≡ (a + (2 ^ 64 - b)) % 2 ^ (8 * size)
rest_is size a b le lt =
    let k = 256 ^ (8 - size) in
    let n = 2 ^ (8 * size) in
    let powers = all_powers size le in
    let bytes = power_bytes size in
    let whole : k * n ≡ 2 ^ 64 = ap (λ m. k * m) bytes ∙ omega arith in
    ap unsigned_abs (int_rem_euclid_is (pos a -ℤ pos b) (pos n) n k (a + (2 ^ 64 - b)) (pow_pos (8 * size)) refl (sum_is a b (k * n) whole lt))

-- the bytes of a difference that fits are those of the one modulo 2 ^ 64
pub same_bytes : (size a b n : ℕ) → b < 2 ^ 64 → Formed size 1 (pos a -ℤ pos b) n → bytes_of size n ≡ bytes_of size (less a b)
same_bytes size a b n lt f =
    let m = a + (2 ^ 64 - b) in
    let le : size ≤ 8 = (let P : ℕ → Type 0 = λ s. s ≤ 8 in subst P f.size_is f.most) in
    let one : n ≡ m % 2 ^ (8 * size) = f.units ∙ ap (λ z. unsigned_abs (int_rem_euclid z (pos (2 ^ (8 * size))))) (div_one (pos a -ℤ pos b)) ∙ rest_is size a b le lt in
    let bytes = power_bytes size in
    let alone : 2 ^ (8 * size) ≡ 256 ^ size * 1 = omega arith in
    ap (bytes_of size) one ∙ bytes_within size (2 ^ (8 * size)) m 1 alone ∙ sym (bytes_within size (2 ^ 64) m (256 ^ (8 - size)) (all_powers size le))

-- the difference of two addresses of one block is that of their offsets
pub less_moved : (base x y : ℕ) → x < 2 ^ 64 → y < 2 ^ 64 → less ((base + x) % 2 ^ 64) ((base + y) % 2 ^ 64) ≡ less x y
less_moved base x y hx hy = omega arith

-- ---- the sign

extended_low : (a : ℕ) → a < 2 ^ 31 → sign_extended 32 64 a ≡ a
extended_low a lt =
    let same : low 32 a ≡ a = omega arith in
    let above : low 32 a < 2 ^ (32 - 1) = omega arith in
    cond-false (is_negative 32 (low 32 a)) (low 32 a + (2 ^ 64 - 2 ^ 32)) (low 32 a) (lt-leb (2 ^ (32 - 1)) (low 32 a) above) ∙ same

extended_high : (a : ℕ) → 2 ^ 64 - 2 ^ 31 ≤ a → a < 2 ^ 64 → sign_extended 32 64 a ≡ a
extended_high a le lt =
    let below : 2 ^ (32 - 1) ≤ low 32 a = omega arith in
    let same : low 32 a + (2 ^ 64 - 2 ^ 32) ≡ a = omega arith in
    cond-true (is_negative 32 (low 32 a)) (low 32 a + (2 ^ 64 - 2 ^ 32)) (low 32 a) (le-leb (2 ^ (32 - 1)) (low 32 a) below) ∙ same

-- a difference in a narrow range keeps its sign in 32 bits
near_if : (a b : ℕ) → a < 2 ^ 64 → b < 2 ^ 64 → negsuc 2_147_483_647 ≤ℤ (pos a -ℤ pos b) → (pos a -ℤ pos b) ≤ℤ pos 2_147_483_647 → sign_extended 32 64 (less a b) ≡ less a b
near_if a b ha hb least most =
    elim (cases_lt a b) [
      | inl below ↦
          let far : b ≤ a + 2 ^ 31 = omega (arith, ints) in
          let value : less a b ≡ 2 ^ 64 - (b - a) = omega arith in
          extended_high (less a b) (omega arith) (omega arith)
      | inr above ↦
          let far : a < b + 2 ^ 31 = omega (arith, ints) in
          let value : less a b ≡ a - b = omega arith in
          extended_low (less a b) (omega arith)
    ]

between : (least most z : ℤ) → (int_le least z && int_le z most) ≡ true → (int_le (negsuc 2_147_483_647) least && int_le most (pos 2_147_483_647)) ≡ true → (negsuc 2_147_483_647 ≤ℤ z) × (z ≤ℤ pos 2_147_483_647)
between least most z inside narrow =
    let a = and_parts (int_le least z) (int_le z most) inside in
    let b = and_parts (int_le (negsuc 2_147_483_647) least) (int_le most (pos 2_147_483_647)) narrow in
    let c = a.0 in
    let d = a.1 in
    let e = b.0 in
    let f = b.1 in
    (omega (arith, ints), omega (arith, ints))

pub near : (size a b n : ℕ) → a < 2 ^ 64 → b < 2 ^ 64 → (size == 8) ≡ false → Formed size 1 (pos a -ℤ pos b) n → sign_extended 32 64 (less a b) ≡ less a b
near size a b n ha hb not_eight f = from f.narrow
  where
    from : IsNarrow f.form → sign_extended 32 64 (less a b) ≡ less a b
    from (inl eight) = absurd (false≢true (sym not_eight ∙ ap (λ s. s == 8) (sym f.size_is) ∙ eight))
    from (inr (inl units)) = absurd (false≢true (sym units ∙ ap (λ s. s == 1) f.scale_is))
    from (inr (inr narrow)) =
        let both = between f.form.least f.form.most (pos a -ℤ pos b) f.range narrow in
        near_if a b ha hb both.0 both.1
