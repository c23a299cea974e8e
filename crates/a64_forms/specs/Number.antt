-- Numbers in texts.
use Rattle.std.specs.Prelude.{◌≡◌, ◌<◌, ◌≤◌, ◌⊎◌, ◌^◌, ℕ, List, ◌++◌, length, codes}
use Rattle.std.specs.Str.Parse.{IsNumeral, digits_value}

-- one decimal digit or more
pub record IsDecimal (word : List ℕ) (n : ℕ) : Type 0 where
  pub numeral : IsNumeral 10 word
  pub value : n ≡ digits_value 10 word

-- `0x` and one to sixteen hexadecimal digits, letters in either case
pub record IsHexadecimal (word : List ℕ) (n : ℕ) : Type 0 where
  pub digits : List ℕ
  pub spelled : word ≡ codes "0x" ++ digits
  pub most : length digits ≤ 16
  pub numeral : IsNumeral 16 digits
  pub value : n ≡ digits_value 16 digits

-- decimal digits, or `0x` and hexadecimal ones, whatever number they spell
abbrev pub IsNumberWord : List ℕ → Type 0
IsNumberWord word = IsNumeral 10 word ⊎ ((digits : List ℕ) × (word ≡ codes "0x" ++ digits) × IsNumeral 16 digits)

-- the word spells the number, which is below 2^64
abbrev pub IsNumber : List ℕ → ℕ → Type 0
IsNumber word n = (IsDecimal word n ⊎ IsHexadecimal word n) × (n < 2 ^ 64)
