-- Varints: numbers below 2 ^ 64 in groups of seven bits, the low group first.
use Rattle.std.specs.Prelude.{◌≡◌, ℕ, zero, suc, ◌+◌, ◌*◌, ◌/◌, ◌%◌, ◌<◌, ◌≤◌, nat_lt, if◌then◌else◌, List, [], ◌∷◌, ◌++◌, length, slice_index}
use Rattle.std.specs.List.{AllByRecursion}

-- the number in the low seven bits of each byte, the low group first
abbrev pub groups : List ℕ → ℕ
groups [] = 0
groups (b ∷ bs) = b % 128 + 128 * groups bs

-- each byte but the last has its high bit set
abbrev pub Continues : List ℕ → Type 0
Continues [] = ⊥
Continues (b ∷ []) = b < 128
Continues (b ∷ c ∷ bs) = (128 ≤ b) × (b < 256) × Continues (c ∷ bs)

-- the bytes are a varint of the value, of at most ten bytes, whose tenth is 0 or 1
pub record IsVarint (bytes : List ℕ) (value : ℕ) : Type 0 where
  pub continues : Continues bytes
  pub short : length bytes ≤ 10
  pub tenth : slice_index bytes 9 ≤ 1
  pub value_is : value ≡ groups bytes

-- the bytes are varints of the numbers, one after another
abbrev pub varints : List ℕ → List ℕ → Type 0
varints bytes [] = bytes ≡ []
varints bytes (n ∷ ns) = (text : List ℕ) × (rest : List ℕ) × (bytes ≡ text ++ rest) × IsVarint text n × varints rest ns

-- each byte has its high bit set, so a varint doesn't end in them
abbrev pub GoOn : List ℕ → Type 0
GoOn bytes = AllByRecursion (λ b. 128 ≤ b) bytes

-- the shortest varint of a value, of at most so many bytes before the last
unfoldable pub shortest_within : ℕ → ℕ → List ℕ
shortest_within zero value = value ∷ []
shortest_within (suc more) value = if nat_lt value 128 then value ∷ [] else (128 + value % 128) ∷ shortest_within more (value / 128)

-- the shortest varint of a value below 2 ^ 64
unfoldable pub shortest : ℕ → List ℕ
shortest value = shortest_within 9 value
