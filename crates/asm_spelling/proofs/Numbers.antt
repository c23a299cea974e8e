-- Numbers that are written are read.
use Rattle.std.proofs.Common.{◌≡◌, ◌⊎◌, ◌==◌, ℕ, zero, suc, ◌+◌, ◌*◌, ◌/◌, ◌%◌, ◌^◌, ◌<◌, ◌≤◌, ℤ, pos, negsuc, ◌-ℤ◌, Bool, true, false, cond, ◌&&◌, Some, List, [], ◌∷◌, ◌++◌, length, refl, sym, ap, subst, ◌∙◌, arith, inl, inr, lit<, lit≤}
use Rattle.std.specs.Prelude.{codes}
use Rattle.std.specs.Fmt.{decimal, digits, digits_onto, digit_glyph, signed_decimal}
use Rattle.std.specs.Str.Parse.{IsNumeral, digits_value}
use Rattle.std.proofs.Math.Nat.{div-lt_iff_lt-mul, pow-suc}
use Rattle.std.proofs.lemmas.Bool.{cond-true, cond-false, cases_Bool}
use Rattle.std.proofs.lemmas.Bool.Decides.{nat_tests}
use Rattle.std.proofs.lemmas.Int.{ints}
use Rattle.std.proofs.lemmas.Fmt.{decimal_is_IsNumeral, digits_is_IsNumeral}
use Rattle.a64_forms.specs.Number.{IsDecimal, IsHexadecimal, IsNumber}
use Rattle.a64_forms.specs.Spelling.{IsImmediate}

-- ---- hexadecimal

-- a number below 16 ^ j has j digits at most
few_digits : (k j n : ℕ) (acc : List ℕ) → n < 16 ^ suc j → length (digits_onto k 16 false n acc) ≤ suc j + length acc
few_digits zero j n acc small = omega arith
few_digits (suc k) zero n acc small =
    let below : n < 16 = small in
    let last : (n / 16 == 0) ≡ true = grind (arith, nat_tests) in
    subst (λ (l : List ℕ). length l ≤ 1 + length acc) (sym (cond-true (n / 16 == 0) (digit_glyph false (n % 16) ∷ acc) (digits_onto k 16 false (n / 16) (digit_glyph false (n % 16) ∷ acc)) last)) (omega arith)
few_digits (suc k) (suc j) n acc small =
    elim (cases_Bool (n / 16 == 0)) [
      | inl last ↦ subst (λ (l : List ℕ). length l ≤ suc (suc j) + length acc) (sym (cond-true (n / 16 == 0) (digit_glyph false (n % 16) ∷ acc) (digits_onto k 16 false (n / 16) (digit_glyph false (n % 16) ∷ acc)) last)) (omega arith)
      | inr more ↦
          let product : n < 16 ^ suc j * 16 = subst (λ m. n < m) (pow-suc 16 (suc j)) small in
          let rest = few_digits k j (n / 16) (digit_glyph false (n % 16) ∷ acc) ((div-lt_iff_lt-mul (lit< tt)).1 product) in
          subst (λ (l : List ℕ). length l ≤ suc (suc j) + length acc) (sym (cond-false (n / 16 == 0) (digit_glyph false (n % 16) ∷ acc) (digits_onto k 16 false (n / 16) (digit_glyph false (n % 16) ∷ acc)) more)) (omega arith)
    ]

hexadecimal_length : (n : ℕ) → n < 2 ^ 64 → length (digits 16 false n) ≤ 16
unfolding digits
hexadecimal_length n small = few_digits 64 15 n [] small

hexadecimal_digits : (n : ℕ) → n < 2 ^ 64 → IsNumeral 16 (digits 16 false n) × (digits_value 16 (digits 16 false n) ≡ n)
hexadecimal_digits n small = let most : 2 ^ 64 ≤ 16 ^ 64 = lit≤ tt in digits_is_IsNumeral 16 false (lit≤ tt) (lit≤ tt) n (omega arith)

pub hexadecimal_is : (n : ℕ) → n < 2 ^ 64 → IsNumber (codes "0x" ++ digits 16 false n) n
hexadecimal_is n small =
    let is = hexadecimal_digits n small in
    (inr (record { digits = digits 16 false n; spelled = refl; most = hexadecimal_length n small; numeral = is.0; value = sym is.1 }), small)

-- ---- decimal

pub decimal_is : (n : ℕ) → n < 2 ^ 64 → IsDecimal (decimal n) n
decimal_is n small = let is = decimal_is_IsNumeral n small in record { numeral = is.0; value = sym is.1 }

pub number_is : (n : ℕ) → n < 2 ^ 64 → IsNumber (decimal n) n
number_is n small = (inl (decimal_is n small), small)

-- its digits without a sign have at most 64 bits
abbrev pub IsSmall : ℤ → Type 0
IsSmall (pos n) = n < 2 ^ 64
IsSmall (negsuc n) = suc n < 2 ^ 64

pub immediate_is : (z : ℤ) → IsSmall z → IsImmediate (35 ∷ signed_decimal z) z
immediate_is (pos n) small = (decimal n, n, number_is n small, inl (refl, refl))
immediate_is (negsuc n) small = (decimal (suc n), suc n, number_is (suc n) small, inr (refl, omega (arith, ints)))
