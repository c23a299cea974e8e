-- Numbers and expressions that are printed are read.
use Rattle.std.proofs.Common.{◌≡◌, ◌≢◌, ◌⊎◌, ◌==◌, ℕ, zero, suc, ◌+◌, ◌*◌, ◌/◌, ◌%◌, ◌^◌, ◌<◌, ◌≤◌, ℤ, pos, negsuc, ◌-ℤ◌, Bool, true, false, cond, List, [], ◌∷◌, ◌++◌, length, refl, sym, ap, subst, ◌∙◌, arith, inl, inr, lit<, lit≤, rules, append_assoc}
use Rattle.std.specs.Prelude.{codes, int_lt, if◌then◌else◌, IsUtf8, FitsSigned}
use Rattle.std.specs.Int.{w64}
use Rattle.std.specs.Fmt.{decimal, digits, digits_onto, digit_glyph, signed_decimal}
use Rattle.std.specs.Str.Parse.{IsNumeral, digits_value}
use Rattle.std.proofs.Math.Nat.{div-lt_iff_lt-mul, pow-suc}
use Rattle.std.proofs.lemmas.Bool.{cond-true, cond-false, cases_Bool}
use Rattle.std.proofs.lemmas.Bool.Decides.{nat_tests}
use Rattle.std.proofs.lemmas.Int.{ints}
use Rattle.std.proofs.lemmas.Fmt.{decimal_is_IsNumeral, digits_is_IsNumeral}
use Rattle.a64_forms.specs.Number.{IsDecimal, IsHexadecimal, IsNumber}
use Rattle.asm_lines.specs.declared.line.AsmExpr.{AsmExpr}
use Rattle.asm_lines.specs.Expressions.{IsExpression, IsOffset, byte_of, signed}
use Rattle.asm_lines.specs.Labels.{IsLabel}
use Rattle.asm_spelling.specs.Labels.{label_text, offset_text}
use Rattle.asm_spelling.specs.Reading.{label}
use Rattle.gt_model.specs.Typed.{IsI64}
use Rattle.printed_lines.specs.Lines.{sum_text}

-- ---- numbers

-- a number below 16 ^ j has j digits at most
few_digits : (k j n : ℕ) (acc : List ℕ) → n < 16 ^ suc j → length (digits_onto k 16 false n acc) ≤ suc j + length acc
few_digits zero j n acc small = omega arith
few_digits (suc k) zero n acc small =
    let below : n < 16 = small in
    let last : (n / 16 == 0) ≡ true = grind (arith, nat_tests) in
    subst (λ (l : List ℕ). length l ≤ 1 + length acc) (sym (cond-true (n / 16 == 0) (digit_glyph false (n % 16) ∷ acc) (digits_onto k 16 false (n / 16) (digit_glyph false (n % 16) ∷ acc)) last)) (omega arith)
few_digits (suc k) (suc j) n acc small =
    elim (cases_Bool (n / 16 == 0)) [
      | inl last ↦ subst (λ (l : List ℕ). length l ≤ suc (suc j) + length acc) (sym (cond-true (n / 16 == 0) (digit_glyph false (n % 16) ∷ acc) (digits_onto k 16 false (n / 16) (digit_glyph false (n % 16) ∷ acc)) last)) (omega arith)
      | inr more ↦
          let product : n < 16 ^ suc j * 16 = subst (λ m. n < m) (pow-suc 16 (suc j)) small in
          let rest = few_digits k j (n / 16) (digit_glyph false (n % 16) ∷ acc) ((div-lt_iff_lt-mul (lit< tt)).1 product) in
          subst (λ (l : List ℕ). length l ≤ suc (suc j) + length acc) (sym (cond-false (n / 16 == 0) (digit_glyph false (n % 16) ∷ acc) (digits_onto k 16 false (n / 16) (digit_glyph false (n % 16) ∷ acc)) more)) (omega arith)
    ]

hexadecimal_length : (n : ℕ) → n < 2 ^ 64 → length (digits 16 false n) ≤ 16
unfolding digits
hexadecimal_length n small = few_digits 64 15 n [] small

pub hexadecimal_is : (n : ℕ) → n < 2 ^ 64 → IsNumber (codes "0x" ++ digits 16 false n) n
hexadecimal_is n small =
    let most : 2 ^ 64 ≤ 16 ^ 64 = lit≤ tt in
    let is = digits_is_IsNumeral 16 false (lit≤ tt) (lit≤ tt) n (omega arith) in
    (inr (record { digits = digits 16 false n; spelled = refl; most = hexadecimal_length n small; numeral = is.0; value = sym is.1 }), small)

pub number_is : (n : ℕ) → n < 2 ^ 64 → IsNumber (decimal n) n
number_is n small = let is = decimal_is_IsNumeral n small in (inl (record { numeral = is.0; value = sym is.1 }), small)

-- ---- offsets

minus : (sign : _) × (byte_of sign ≡ 45) × ((n : ℕ) → signed sign n ≡ pos 0 -ℤ pos n)
minus = search rules

plus : (sign : _) × (byte_of sign ≡ 43) × ((n : ℕ) → signed sign n ≡ pos n)
plus = search rules

-- labels that are written are read
abbrev pub LabelsAreRead : Type 0
LabelsAreRead = (name : List ℕ) (k : ℕ) → IsUtf8 name → k < 2 ^ 64 → IsLabel (label_text name k) (label name k)

negative : (n : ℕ) → n < 2 ^ 63 → negsuc n ≡ pos 0 -ℤ pos (suc n)
negative n small = omega (arith, ints)

plus_text : (n : ℕ) → offset_text (pos (suc n)) ≡ 43 ∷ decimal (suc n)
plus_text n =
    let low : int_lt (pos (suc n)) (pos 0) ≡ false = grind (arith, nat_tests) in
    let high : int_lt (pos 0) (pos (suc n)) ≡ true = grind (arith, nat_tests) in
    cond-false (int_lt (pos (suc n)) (pos 0)) (decimal (suc n)) (cond (int_lt (pos 0) (pos (suc n))) (43 ∷ decimal (suc n)) []) low
    ∙ cond-true (int_lt (pos 0) (pos (suc n))) (43 ∷ decimal (suc n)) [] high

pub offset_is : (z : ℤ) → IsI64 z → IsOffset (offset_text z) z
offset_is (negsuc n) small = inr (minus.0, decimal (suc n), ap (λ (b : ℕ). b ∷ decimal (suc n)) (sym minus.1), (suc n, number_is (suc n) (omega arith), negative n small ∙ sym (minus.2 (suc n)), omega (arith, ints)))
offset_is (pos zero) small = inl (refl, refl)
offset_is (pos (suc n)) small = inr (plus.0, decimal (suc n), plus_text n ∙ ap (λ (b : ℕ). b ∷ decimal (suc n)) (sym plus.1), (suc n, number_is (suc n) (omega arith), sym (plus.2 (suc n)), omega (arith, ints)))

pub sum_is : LabelsAreRead → (name : List ℕ) (k : ℕ) (offset : ℤ) → IsUtf8 name → k < 2 ^ 64 → IsI64 offset → IsExpression (sum_text name k offset) (record { label = label name k; offset = offset })
sum_is labels name k offset utf8 small fits = record {
  label = label_text name k;
  offset = offset_text offset;
  parts = refl;
  label_is = labels name k utf8 small;
  offset_is = offset_is offset fits;
}
