-- Pieces at their new offsets, as the code keeps them.
use Rattle.std.specs.Prelude.{◌≡◌, ◌<◌, ◌^◌, ℕ, ◌+◌, Bool, false, List, length, map, Option, Some, None, slice_get}
use Rattle.std.specs.List.{AllByRecursion}
use Rattle.std.specs.Option.{option_and_then, option_map}
use Rattle.std.specs.Str.{bytes_eq}
use Rattle.block_parts.specs.Words.{patched_words}
use Rattle.new_intervals.specs.declared.spots.Spot.{Spot}
use Rattle.sym_expr.specs.declared.program.Piece.{Piece}
use Rattle.sym_expr.specs.declared.program.Piece.TheVariants.{Code as CodePiece, Data as DataPiece, Gap}
use Rattle.sym_expr.specs.Placing.{Placed, new_size}

abbrev pub placed_of : Spot → Placed
placed_of k = record { at = k.at; piece = k.piece.now }

abbrev pub placed_all : List Spot → List Placed
placed_all spots = map placed_of spots

-- the piece at the position that is kept of an identifier
abbrev pub spot_at : List Spot → (List ℕ → Option ℕ) → List ℕ → Option Placed
spot_at spots kept id = option_map placed_of (option_and_then (slice_get spots) (kept id))

-- an identifier, where there is one, is this
abbrev pub block_at : Option (List ℕ) → List ℕ → Bool
block_at None id = false
block_at (Some own) id = bytes_eq id own

-- a code block has its own words and those that are inserted, and no others
abbrev pub HasAllWords : Piece → Type 0
HasAllWords (CodePiece b) = length (patched_words b) ≡ length b.own + length b.inserted
HasAllWords (DataPiece b) = Unit {0}
HasAllWords (Gap bytes) = Unit {0}

-- a piece ends where offsets are numbers of 64 bits
pub record IsRoomy (x : Placed) : Type 0 where
  pub room : x.at + new_size x.piece < 2 ^ 62
  pub words : HasAllWords x.piece

abbrev pub AreRoomy : List Placed → Type 0
AreRoomy xs = AllByRecursion IsRoomy xs
