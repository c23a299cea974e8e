-- How a line falls into words.
use Rattle.std.specs.Prelude.{◌≡◌, ◌≢◌, ◌⊎◌, ◌==◌, ◌||◌, ℕ, Bool, true, false, not, MatchBool, if◌then◌else◌, filter, List, [], ◌∷◌, ◌++◌}
use Rattle.std.specs.List.{flat_map}

-- a space, a tab or a carriage return
abbrev pub is_white : ℕ → Bool
is_white b = b == 32 || b == 9 || b == 13

abbrev pub begins_white : List ℕ → Bool
begins_white [] = false
begins_white (b ∷ bytes) = is_white b

-- what may stand between two quotes: a backslash takes the byte behind it along, and no quote stands there else
abbrev pub IsInside : List ℕ → Type 0
IsInside [] = Unit {0}
IsInside (b ∷ []) = (b ≢ 34) × (b ≢ 92)
IsInside (b ∷ d ∷ bytes) = MatchBool (b == 92) (IsInside bytes) ((b ≢ 34) × IsInside (d ∷ bytes))

-- a byte outside quotes, or what stands between two quotes
pub data Piece : Type 0 where
  Bare : ℕ → Piece
  Quoted : List ℕ → Piece

abbrev pub IsPiece : Piece → Type 0
IsPiece (Bare b) = b ≢ 34
IsPiece (Quoted inside) = IsInside inside

abbrev pub bytes_of : Piece → List ℕ
bytes_of (Bare b) = b ∷ []
bytes_of (Quoted inside) = 34 ∷ inside ++ 34 ∷ []

-- white space outside quotes
abbrev pub is_gap : Piece → Bool
is_gap (Bare b) = is_white b
is_gap (Quoted inside) = false

-- more bytes at the front of the first run
abbrev pub before_first : List ℕ → List (List ℕ) → List (List ℕ)
before_first bytes [] = bytes ∷ []
before_first bytes (r ∷ rs) = (bytes ++ r) ∷ rs

-- what stands between white space, some of it empty
abbrev pub runs : List Piece → List (List ℕ)
runs [] = [] ∷ []
runs (p ∷ ps) = if is_gap p then [] ∷ runs ps else before_first (bytes_of p) (runs ps)

abbrev pub is_some_bytes : List ℕ → Bool
is_some_bytes [] = false
is_some_bytes (b ∷ bytes) = true

-- the words: the runs that aren't empty
abbrev pub words_in : List Piece → List (List ℕ)
words_in ps = filter is_some_bytes (runs ps)

-- two slashes, with which a comment begins
abbrev pub IsComment : List ℕ → Type 0
IsComment bytes = (behind : List ℕ) × (bytes ≡ 47 ∷ 47 ∷ behind)

-- each is a piece, and no comment begins before those bytes
abbrev pub ArePieces : List Piece → List ℕ → Type 0
ArePieces [] rest = Unit {0}
ArePieces (p ∷ ps) rest = IsPiece p × (IsComment (flat_map bytes_of (p ∷ ps) ++ rest) → ⊥) × ArePieces ps rest

-- the line is pieces, with these words, and then its end or a comment
pub record HasWords (line : List ℕ) (words : List (List ℕ)) : Type 0 where
  pub pieces : List Piece
  pub comment : List ℕ
  pub parts : line ≡ flat_map bytes_of pieces ++ comment
  pub each : ArePieces pieces comment
  pub ends : (comment ≡ []) ⊎ IsComment comment
  pub are : words ≡ words_in pieces
