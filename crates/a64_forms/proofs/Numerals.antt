-- Digits are ASCII.
use Rattle.std.proofs.Common.{◌≡◌, ◌↔◌, ℕ, zero, suc, ◌<◌, ◌≤◌, Bool, true, false, ◌&&◌, IsTrue, List, [], ◌∷◌, length, refl, sym, ◌∙◌, inl, inr, arith}
use Rattle.std.specs.Char.{digit_value, is_digit}
use Rattle.std.specs.List.{list_all}
use Rattle.std.specs.Str.{IsAscii}
use Rattle.std.specs.Str.Parse.{AllDigits, IsNumeral}
use Rattle.std.proofs.lemmas.Bool.{cases_lt, le-ltb, lt-ltb, ltb-true}
use Rattle.a64_forms.proofs.OneForm.{both_true}

digit_is_ascii : (d : ℕ) → digit_value d < 36 → d < 128
digit_is_ascii d h =
    elim (cases_lt d 128) [
      | inl lt ↦ lt
      | inr le ↦
          let none = rw (le-ltb d 48 (omega arith), le-ltb d 58 (omega arith), le-ltb d 65 (omega arith), le-ltb d 91 (omega arith), le-ltb d 97 (omega arith), le-ltb d 123 (omega arith)) at h in
          absurd (omega (arith, none))
    ]

pub digits_are_ascii : (base : ℕ) (digits : List ℕ) → base ≤ 36 → AllDigits base digits → IsAscii digits
digits_are_ascii base [] most all i = omega arith
digits_are_ascii base (d ∷ digits) most all zero = digit_is_ascii d (omega (arith, all.0))
digits_are_ascii base (d ∷ digits) most all (suc i) = digits_are_ascii base digits most all.1 i

and_true : (a b : Bool) → a ≡ true → b ≡ true → (a && b) ≡ true
and_true true b e f = f
and_true false b e f = cc

pub all_are_digits : (base : ℕ) (digits : List ℕ) → list_all (λ d. is_digit d base) digits ≡ true → AllDigits base digits
all_are_digits base [] all = tt
all_are_digits base (d ∷ digits) all = let q = both_true (is_digit d base) (list_all (λ e. is_digit e base) digits) all in (ltb-true (digit_value d) base q.0, all_are_digits base digits q.1)

pub digits_pass : (base : ℕ) (digits : List ℕ) → AllDigits base digits → list_all (λ d. is_digit d base) digits ≡ true
digits_pass base [] all = refl
digits_pass base (d ∷ digits) all = and_true (is_digit d base) (list_all (λ e. is_digit e base) digits) (lt-ltb (digit_value d) base all.0) (digits_pass base digits all.1)

pub numeral_test : (base : ℕ) (digits : List ℕ) (r : Bool) → 0 < length digits → r ≡ list_all (λ d. is_digit d base) digits → IsTrue r ↔ IsNumeral base digits
numeral_test base digits r some e = (λ t. (some, all_are_digits base digits (sym e ∙ t)), λ p. e ∙ digits_pass base digits p.1)

pub no_numeral : (base : ℕ) (digits : List ℕ) → length digits < 1 → IsTrue false ↔ IsNumeral base digits
no_numeral base digits none = (λ t. cc, λ p. absurd (omega (arith, p.0, none)))
