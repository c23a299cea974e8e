-- Whether a word spells a number.
use Rattle.std.proofs.Common.{◌≡◌, ◌⊎◌, ℕ, ◌<◌, List, [], ◌∷◌, ◌++◌, refl, sym, ap, subst, ◌∙◌, inl, inr, arith, ◌≤◌, ◌^◌, length, codes}
use Rattle.std.specs.Char.{digit_value}
use Rattle.std.specs.Str.Parse.{AllDigits, IsNumeral, digits_value}
use Rattle.std.proofs.lemmas.Bool.{cases_eq}
use Rattle.a64_forms.specs.Number.{IsDecimal, IsHexadecimal, IsNumber, IsNumberWord}
use Rattle.asm_lines.proofs.Decisions.{Decided, as_well, both_decided, either_decided, less}

digits : (base : ℕ) (word : List ℕ) → Decided (AllDigits base word)
digits base [] = inl tt
digits base (c ∷ word) = both_decided (less (digit_value c) base) (digits base word)

numeral : (base : ℕ) (word : List ℕ) → Decided (IsNumeral base word)
numeral base word = both_decided (less 0 (length word)) (digits base word)

-- two bytes, and the digits behind them
record IsPrefixed (word : List ℕ) : Type 0 where
  behind : List ℕ
  spelled : word ≡ codes "0x" ++ behind

prefixed : (word : List ℕ) → Decided (IsPrefixed word)
prefixed [] = inr (λ p. let e = p.spelled in cc)
prefixed (a ∷ []) = inr (λ p. let e = p.spelled in cc)
prefixed (a ∷ b ∷ behind) =
    elim (cases_eq a 48) [
      | inl one ↦ elim (cases_eq b 120) [
        | inl two ↦ inl (record { behind = behind; spelled = ap (λ (n : ℕ). n ∷ b ∷ behind) one ∙ ap (λ (n : ℕ). 48 ∷ n ∷ behind) two })
        | inr refuted ↦ inr (λ p. let e = p.spelled in let second : b ≡ 120 = cc in refuted second)
      ]
      | inr refuted ↦ inr (λ p. let e = p.spelled in let head : a ≡ 48 = cc in refuted head)
    ]

behind_prefix : (word a b : List ℕ) → word ≡ codes "0x" ++ a → word ≡ codes "0x" ++ b → a ≡ b
behind_prefix word a b e f = let both : codes "0x" ++ a ≡ codes "0x" ++ b = sym e ∙ f in cc

-- a number with a property that is decided of each
module _ (P : ℕ → Type 0) (holds : (n : ℕ) → Decided (P n)) where
  pub decimal_with : (word : List ℕ) → Decided ((n : ℕ) × IsDecimal word n × P n)
  decimal_with word = as_well
      (λ x. (digits_value 10 word, record { numeral = x.0; value = refl }, x.1))
      (λ x. (x.1.numeral, subst P x.1.value x.2))
      (both_decided (numeral 10 word) (holds (digits_value 10 word)))

module _ (P : ℕ → Type 0) (holds : (n : ℕ) → Decided (P n)) where
  Fits : ℕ → Type 0
  Fits n = (n < 2 ^ 64) × P n

  fits : (n : ℕ) → Decided (Fits n)
  unfolding Fits
  fits n = both_decided (less n (2 ^ 64)) (holds n)

  -- the digits behind `0x`
  hexadecimal_of : (word behind : List ℕ) → word ≡ codes "0x" ++ behind → Decided ((n : ℕ) × IsHexadecimal word n × Fits n)
  hexadecimal_of word behind spelled = as_well
      (λ x. (digits_value 16 behind, record { digits = behind; spelled = spelled; most = (let short = x.1.0 in omega arith); numeral = x.0; value = refl }, x.1.1))
      (λ x.
      let same : x.1.digits ≡ behind = behind_prefix word x.1.digits behind x.1.spelled spelled in
      let most : length behind ≤ 16 = subst (λ (l : List ℕ). length l ≤ 16) same x.1.most in
      (subst (IsNumeral 16) same x.1.numeral, (omega arith, subst Fits (x.1.value ∙ ap (digits_value 16) same) x.2)))
      (both_decided (numeral 16 behind) (both_decided (less (length behind) 17) (fits (digits_value 16 behind))))

  hexadecimal_with : (word : List ℕ) → Decided ((n : ℕ) × IsHexadecimal word n × Fits n)
  hexadecimal_with word =
      elim (prefixed word) [
        | inl p ↦ hexadecimal_of word p.behind p.spelled
        | inr refuted ↦ inr (λ x. refuted (record { behind = x.1.digits; spelled = x.1.spelled }))
      ]

  pub number_with : (word : List ℕ) → Decided ((n : ℕ) × IsNumber word n × P n)
  unfolding Fits
  number_with word = as_well to back (either_decided (decimal_with Fits fits word) (hexadecimal_with word)) where
    to : ((n : ℕ) × IsDecimal word n × Fits n) ⊎ ((n : ℕ) × IsHexadecimal word n × Fits n) → (n : ℕ) × IsNumber word n × P n
    to (inl x) = (x.0, (inl x.1, x.2.0), x.2.1)
    to (inr x) = (x.0, (inr x.1, x.2.0), x.2.1)

    back : (n : ℕ) × IsNumber word n × P n → ((n : ℕ) × IsDecimal word n × Fits n) ⊎ ((n : ℕ) × IsHexadecimal word n × Fits n)
    back (n, (inl d, below), p) = inl (n, d, (below, p))
    back (n, (inr h, below), p) = inr (n, h, (below, p))

pub number_word : (word : List ℕ) → Decided (IsNumberWord word)
number_word word = either_decided (numeral 10 word) hexadecimal where
  hexadecimal : Decided ((digits : List ℕ) × (word ≡ codes "0x" ++ digits) × IsNumeral 16 digits)
  hexadecimal =
      elim (prefixed word) [
        | inl p ↦ as_well
            (λ n. (p.behind, p.spelled, n))
            (λ x. subst (IsNumeral 16) (behind_prefix word x.0 p.behind x.1 p.spelled) x.2)
            (numeral 16 p.behind)
        | inr refuted ↦ inr (λ x. refuted (record { behind = x.0; spelled = x.1 }))
      ]

pub number_decided : (word : List ℕ) → Decided ((n : ℕ) × IsNumber word n)
number_decided word = as_well (λ x. (x.0, x.1)) (λ x. (x.0, x.1, tt)) (number_with (λ n. Unit {0}) (λ n. inl tt) word)
