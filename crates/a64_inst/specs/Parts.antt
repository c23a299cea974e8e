-- How a word is made of fixed bits and fields, from the left.
use Rattle.std.specs.Prelude.{ℕ, ◌+◌, ◌-◌, ◌*◌, ◌/◌, ◌%◌, ◌^◌, Bool, true, false, nat_lt, ◌==◌, ◌&&◌, List, [], ◌∷◌}

-- a part of a word: bits of this width that are fixed, or a field of this width
pub data Part : Type 0 where
  is : ℕ → ℕ → Part
  field : ℕ → Part

-- the bits of a word, as many as the width says, that end at this place
abbrev pub bits_at : ℕ → ℕ → ℕ → ℕ
bits_at place width word = word / 2 ^ place % 2 ^ width

-- a word has the fixed bits of parts that begin below this place
abbrev pub meets : ℕ → List Part → ℕ → Bool
meets top [] word = true
meets top (is width value ∷ parts) word = (bits_at (top - width) width word == value) && meets (top - width) parts word
meets top (field width ∷ parts) word = meets (top - width) parts word

-- a function of the fields of these parts
abbrev pub Fields : List Part → Type 0 → Type 0
Fields [] A = A
Fields (is width value ∷ parts) A = Fields parts A
Fields (field width ∷ parts) A = ℕ → Fields parts A

-- such a function at the fields of a word, for parts that begin below this place
abbrev pub at_fields : {A : Type 0} → ℕ → (parts : List Part) → Fields parts A → ℕ → A
at_fields top [] value word = value
at_fields top (is width fixed ∷ parts) value word = at_fields (top - width) parts value word
at_fields top (field width ∷ parts) value word = at_fields (top - width) parts (value (bits_at (top - width) width word)) word

-- the word of these parts with these values of the fields
abbrev pub joined : ℕ → List Part → List ℕ → ℕ
joined top [] values = 0
joined top (is width value ∷ parts) values = value * 2 ^ (top - width) + joined (top - width) parts values
joined top (field width ∷ parts) [] = 0
joined top (field width ∷ parts) (value ∷ values) = value * 2 ^ (top - width) + joined (top - width) parts values

-- there is one value for each field, and it has no more bits than the field
abbrev pub fit_parts : List Part → List ℕ → Bool
fit_parts [] [] = true
fit_parts [] (value ∷ values) = false
fit_parts (is width value ∷ parts) values = fit_parts parts values
fit_parts (field width ∷ parts) [] = false
fit_parts (field width ∷ parts) (value ∷ values) = nat_lt value (2 ^ width) && fit_parts parts values
