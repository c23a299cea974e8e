-- Names and labels.
use Rattle.std.specs.Prelude.{◌≡◌, ◌≢◌, ◌⊎◌, ◌<◌, ◌^◌, ◌==◌, ◌||◌, ℕ, Bool, true, not, IsTrue, IsUtf8, if◌then◌else◌, List, [], ◌∷◌, ◌++◌, Option, Some, None, slice_index}
use Rattle.std.specs.Char.{is_ascii_alphabetic, is_ascii_digit}
use Rattle.std.specs.List.{flat_map, list_all}
use Rattle.a64_forms.specs.Number.{IsDecimal}
use Rattle.asm_lines.specs.declared.line.AsmName.{AsmName}
use Rattle.asm_lines.specs.declared.run.Class.{Class}
use Rattle.asm_lines.specs.declared.run.Class.TheVariants.{Bare, Digit}

-- a letter, `_`, `.` or `$`, with which a bare name begins
abbrev pub begins_bare : ℕ → Bool
begins_bare b = is_ascii_alphabetic b || b == 95 || b == 46 || b == 36

-- the bytes of a class: those of bare names, which may be digits too, or decimal digits
abbrev pub belongs : Class → ℕ → Bool
belongs Bare b = begins_bare b || is_ascii_digit b
belongs Digit b = is_ascii_digit b

-- no byte of the class stands first
abbrev pub Stops : Class → List ℕ → Type 0
Stops class [] = Unit {0}
Stops class (b ∷ bytes) = IsTrue (not (belongs class b))

-- a bare name
abbrev pub IsBare : List ℕ → Type 0
IsBare [] = ⊥
IsBare (b ∷ bytes) = IsTrue (begins_bare b) × (list_all (λ c. belongs Bare c) bytes ≡ true)

-- a byte between quotes: the quote, the backslash and the end of a line are written with a backslash
abbrev pub escaped : ℕ → List ℕ
escaped b = if b == 34 then 92 ∷ 34 ∷ [] else (if b == 92 then 92 ∷ 92 ∷ [] else (if b == 10 then 92 ∷ 110 ∷ [] else b ∷ []))

-- a name between quotes
abbrev pub quoted : List ℕ → List ℕ
quoted name = 34 ∷ flat_map escaped name ++ 34 ∷ []

-- the word is the name, bare or between quotes
abbrev pub IsName : (word name : List ℕ) → Type 0
IsName word name = (IsBare word × (word ≡ name)) ⊎ (word ≡ quoted name)

-- the text begins with the name, and this stands behind it
abbrev pub HasName : (text name rest : List ℕ) → Type 0
HasName text name rest = (word : List ℕ) × (text ≡ word ++ rest) × IsName word name

-- the digits are decimal, don't begin with 0, and spell the ordinal
abbrev pub AreOrdinal : List ℕ → ℕ → Type 0
AreOrdinal digits k = IsDecimal digits k × (slice_index digits 0 ≢ 48) × (k < 2 ^ 64)

-- nothing, or `#` and the ordinal
abbrev pub IsOrdinal : List ℕ → Option ℕ → Type 0
IsOrdinal word None = word ≡ []
IsOrdinal word (Some k) = (digits : List ℕ) × (word ≡ 35 ∷ digits) × AreOrdinal digits k

-- a name with its ordinal, if it has one, stands first, and this behind it
abbrev pub HasFront : (text name : List ℕ) → Option ℕ → List ℕ → Type 0
HasFront text name ordinal rest =
    (spelling word : List ℕ) × (text ≡ spelling ++ (word ++ rest)) × IsName spelling name × IsOrdinal word ordinal

-- nothing, or a sign: what can stand behind a label
abbrev pub EndsLabel : List ℕ → Type 0
EndsLabel [] = Unit {0}
EndsLabel (b ∷ bytes) = (b ≡ 43) ⊎ (b ≡ 45)

-- the word is a label: a name, and perhaps which of the symbols of that name is meant
pub record IsLabel (word : List ℕ) (label : AsmName) : Type 0 where
  pub spelling : List ℕ
  pub ordinal : List ℕ
  pub parts : word ≡ spelling ++ ordinal
  pub name_is : IsName spelling label.name
  pub utf8 : IsUtf8 label.name
  pub ordinal_is : IsOrdinal ordinal label.ordinal
