-- The numbers of words.
use Rattle.std.specs.Prelude.{ℕ, ◌≤◌, ◌+◌, ◌-◌, ◌*◌, fold, ℤ, pos, Bool, ◌&&◌, ◌||◌, ◌==◌, is_some, codes, [], ◌∷◌, nat_lt, nat_le, List, length, Option, Some, None, if◌then◌else◌}
use Rattle.std.specs.List.{list_all, slice_split}
use Rattle.std.specs.Option.{option_and_then, option_map_or}
use Rattle.std.specs.Str.{bytes_eq}
use Rattle.command_words.specs.declared.table.Bounds.{Bounds}
use Rattle.command_words.specs.declared.number.TheConstants.{MOST_NUMBER}
use Rattle.command_words.specs.declared.table.TheConstants.{FLAG}

-- is a byte a decimal digit
abbrev pub is_digit : ℕ → Bool
is_digit byte = nat_le 48 byte && nat_le byte 57

-- the number that decimal digits stand for
abbrev pub decimal_value : List ℕ → ℕ
decimal_value digits = fold (λ value digit. 10 * value + (digit - 48)) 0 digits

-- the number that a text of one decimal digit and more stands for, where it isn't above the most
abbrev pub number_of : ℕ → List ℕ → Option ℕ
number_of most text =
    if nat_lt 0 (length text) && list_all is_digit text && nat_le (decimal_value text) most
    then Some (decimal_value text) else None

-- a number is within the bounds
abbrev pub IsWithin : Bounds → ℕ → Type 0
IsWithin bounds value = (bounds.least ≤ value) × (value ≤ bounds.most)

-- a number, if it is within the bounds
abbrev pub within : Bounds → ℕ → Option ℕ
within bounds value = if nat_le bounds.least value && nat_le value bounds.most then Some value else None

-- the number of a text, if it is one within the bounds
abbrev pub bounded : Bounds → List ℕ → Option ℕ
bounded bounds text = option_and_then (within bounds) (number_of MOST_NUMBER text)

-- is this byte a comma
abbrev pub is_comma : ℕ → Bool
is_comma byte = byte == 44

-- the texts between the commas of a text
abbrev pub between_commas : List ℕ → List (List ℕ)
between_commas text = slice_split is_comma text

-- a text that stands for every flag
abbrev pub is_every : List ℕ → Bool
is_every text = bytes_eq text (codes "*")

-- each text is the number of a flag
abbrev pub are_numbers : List (List ℕ) → Bool
are_numbers parts = list_all (λ part. is_some (bounded FLAG part)) parts

-- `*`, or numbers of flags
abbrev pub are_flags : List ℕ → Bool
are_flags text = is_every text || are_numbers (between_commas text)

-- the flags of those texts that are numbers of flags
abbrev pub flags_among : List (List ℕ) → List ℤ
flags_among [] = []
flags_among (part ∷ parts) = option_map_or (λ n. pos n ∷ flags_among parts) (bounded FLAG part) (flags_among parts)

-- the flags that the numbers of a text stand for
abbrev pub flags_of : List ℕ → List ℤ
flags_of text = flags_among (between_commas text)
