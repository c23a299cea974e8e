-- A word as pieces from the left, each with its width and its value.
use Rattle.std.specs.Prelude.{ℕ, ◌+◌, ◌-◌, ◌*◌, ◌^◌, Bool, true, nat_lt, nat_le, ◌&&◌, List, [], ◌∷◌}

-- the value of a piece has no more bits than its width
abbrev pub fits_piece : ℕ × ℕ → Bool
fits_piece piece = nat_lt piece.0 32 && nat_lt piece.1 (2 ^ piece.0)

-- the pieces have room below this place of a word of 32 bits
abbrev pub has_room : ℕ → List (ℕ × ℕ) → Bool
has_room top [] = true
has_room top (piece ∷ pieces) = nat_le piece.0 top && (nat_lt (top - piece.0) 32 && has_room (top - piece.0) pieces)

-- the word of pieces that begin below this place
abbrev pub joined_pieces : ℕ → List (ℕ × ℕ) → ℕ
joined_pieces top [] = 0
joined_pieces top (piece ∷ pieces) = piece.1 * 2 ^ (top - piece.0) + joined_pieces (top - piece.0) pieces
