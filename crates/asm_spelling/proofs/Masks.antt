-- A logical immediate has 64 bits at most.
use Rattle.std.proofs.Common.{◌≡◌, ◌==◌, ℕ, suc, ◌+◌, ◌-◌, ◌*◌, ◌/◌, ◌%◌, ◌^◌, ◌<◌, ◌≤◌, Bool, true, false, cond, ◌&&◌, ◌||◌, not, Option, Some, None, refl, sym, ap, subst, ◌∙◌, arith, inl, inr, pow-add, le_trans, lt_of_le_of_lt, mul-le-mul_right, suc-mul, div-lt_iff_lt-mul, div-mul-le_self, mod-lt, mod-eq_of_lt, mul_comm, mul_right_comm, add-mul}
use Rattle.std.proofs.Math.Nat.{div-add-mod, mul-add-mod_self_left}
use Rattle.std.proofs.lemmas.Nat.{pow_pos}
use Rattle.std.specs.Prelude.{nat_lt}
use Rattle.std.proofs.lemmas.Bool.Decides.{nat_tests}
use Rattle.std.proofs.lemmas.Bool.{cases_Bool, cond-true, cond-false}
use Rattle.a64_inst.specs.declared.operations.Width.{Width}
use Rattle.a64_inst.specs.declared.operations.Width.TheVariants.{W, X}
use Rattle.a64_inst.specs.Meaning.{width_of}
use Rattle.a64_inst.specs.Numbers.{bit_mask, bits_of, element_size, low, rotated}
use Rattle.a64_inst.specs.Reserved.{is_no_mask}
use Rattle.a64_forms.specs.Bits.{immr_of, imms_of, mask_of, n_of, spells_mask}

-- two parts that change places: the upper one is below q, the lower one below p
turned : (p q a : ℕ) → 0 < p → a < q * p → a / p + a % p * q < p * q
turned p q a some small =
    let upper : a / p < q = (div-lt_iff_lt-mul some).1 small in
    let lower : suc (a % p) * q ≤ p * q = mul-le-mul_right q (mod-lt a some) in
    let step = suc-mul (a % p) q in
    omega (arith, upper, lower, step)

-- what goes up keeps its place below the whole
moved : (p q a : ℕ) → 0 < p → 0 < q → a * q % (p * q) ≡ a % p * q
moved p q a some more =
    let parts : a * q ≡ p * q * (a / p) + a % p * q =
    ap (λ (n : ℕ). n * q) (sym (div-add-mod a p)) ∙ add-mul (p * (a / p)) (a % p) q ∙ ap (λ (n : ℕ). n + a % p * q) (mul_right_comm p (a / p) q) in
    let lower : suc (a % p) * q ≤ p * q = mul-le-mul_right q (mod-lt a some) in
    let step = suc-mul (a % p) q in
    let less : a % p * q < p * q = omega (arith, lower, step, more) in
    ap (λ (n : ℕ). n % (p * q)) parts ∙ mul-add-mod_self_left (p * q) (a / p) (a % p * q) ∙ mod-eq_of_lt less

rotated_below : (e a r : ℕ) → r ≤ e → rotated e a r < 2 ^ e
rotated_below e a r within =
    let p = 2 ^ r in
    let q = 2 ^ (e - r) in
    let b = low e a in
    let whole : p * q ≡ 2 ^ e = sym (pow-add 2 r (e - r)) ∙ ap (λ (n : ℕ). 2 ^ n) (omega arith) in
    let small : b < q * p = subst (λ (n : ℕ). b < n) (sym whole ∙ mul_comm p q) (mod-lt a (pow_pos e)) in
    let up : low e (b * q) ≡ b % p * q = ap (λ (n : ℕ). b * q % n) (sym whole) ∙ moved p q b (pow_pos r) (pow_pos (e - r)) in
    subst (λ (n : ℕ). b / p + n < 2 ^ e) (sym up) (subst (λ (n : ℕ). b / p + b % p * q < n) whole (turned p q b (pow_pos r) small))

-- so many copies of a number below 2 ^ e fit
copies : (x d most : ℕ) → x ≤ d → x * (most / d) ≤ most
copies x d most small = le_trans (mul-le-mul_right (most / d) small) (subst (λ (n : ℕ). n ≤ most) (mul_comm (most / d) d) (div-mul-le_self most d))

mask_most : (width n immr imms : ℕ) → 0 < element_size n imms → bit_mask width n immr imms ≤ 2 ^ width - 1
mask_most width n immr imms some =
    let e = element_size n imms in
    let r = immr % e in
    let turn : r < e = mod-lt immr some in
    let x = rotated e (2 ^ (imms % e + 1) - 1) r in
    let below : x < 2 ^ e = rotated_below e (2 ^ (imms % e + 1) - 1) r (omega arith) in
    copies x (2 ^ e - 1) (2 ^ width - 1) (omega arith)

width_small : (w : Width) → 2 ^ bits_of w - 1 < 2 ^ 64
width_small W = omega arith
width_small X = omega arith

first_of : (a b : Bool) → (a && b) ≡ true → a ≡ true
first_of true b e = refl
first_of false b e = cc

some_element : (k : ℕ) (b : Bool) → not ((k == 0) || b) ≡ true → 0 < k
some_element k b e = elim (cases_Bool (k == 0)) [
  | inl none ↦
      let wrong : false ≡ true = sym (ap (λ (t : Bool). not (t || b)) none) ∙ e in
      absurd cc
  | inr some ↦ ne_zero k some
]
  where
    ne_zero : (k : ℕ) → (k == 0) ≡ false → 0 < k
    ne_zero k h = grind (arith, nat_tests)

pub mask_below : (sf fields value : ℕ) → mask_of sf fields ≡ Some value → value < 2 ^ 64
mask_below sf fields value e =
    let n = n_of fields in
    let immr = immr_of fields in
    let imms = imms_of fields in
    let mask = bit_mask (bits_of (width_of sf)) n immr imms in
    elim (cases_Bool (spells_mask sf fields)) [
      | inl spells ↦
          let same : Some mask ≡ Some value = sym (cond-true (spells_mask sf fields) (Some mask) None spells) ∙ e in
          let is : mask ≡ value = cc in
          let element = first_of (not (is_no_mask sf n imms)) (nat_lt immr (element_size n imms)) spells in
          let some = some_element (element_size n imms) ((imms % element_size n imms == element_size n imms - 1) || ((sf == 0) && (n == 1))) element in
          subst (λ (v : ℕ). v < 2 ^ 64) is (lt_of_le_of_lt (mask_most (bits_of (width_of sf)) n immr imms some) (width_small (width_of sf)))
      | inr fails ↦
          let no : None ≡ Some value = sym (cond-false (spells_mask sf fields) (Some mask) None fails) ∙ e in
          absurd cc
    ]
