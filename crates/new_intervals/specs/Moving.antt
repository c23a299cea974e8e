-- Where the bytes of pieces went, as the code keeps it.
use Rattle.std.specs.Prelude.{◌≡◌, ◌<◌, ◌^◌, ℕ, ◌+◌, ◌*◌, nat_lt, List, [], ◌∷◌, length, filter, sum_by}
use Rattle.std.specs.List.Sorted.{IsNonDecreasing}
use Rattle.new_intervals.specs.Placed.{AreRoomy}
use Rattle.new_intervals.specs.declared.moves.Moves.{Moves}
use Rattle.new_intervals.specs.declared.runs.Run.{Run}
use Rattle.rewrite.specs.Offsets.{new_depth, old_size}
use Rattle.sym_expr.specs.declared.program.Piece.{Piece}
use Rattle.sym_expr.specs.declared.program.Piece.TheVariants.{Code as CodePiece, Data as DataPiece, Gap}
use Rattle.sym_expr.specs.declared.program.Stretch.{Stretch}
use Rattle.sym_expr.specs.declared.program.Word.{Word}
use Rattle.sym_expr.specs.Placing.{Placed, placed, stretch_size}

-- how many numbers are below a bound
abbrev pub count_below : ℕ → List ℕ → ℕ
count_below bound ns = length (filter (λ n. nat_lt n bound) ns)

-- the words that are inserted in a piece
abbrev pub words_in : Piece → List (ℕ × Word)
words_in (CodePiece b) = b.inserted
words_in (DataPiece b) = []
words_in (Gap bytes) = []

-- so many bytes had the pieces before
abbrev pub old_sizes : List Placed → ℕ
old_sizes xs = sum_by (λ (x : Placed). old_size x.piece) xs

-- sorted offsets by which bytes of a piece are found again
pub record GoesDeep (p : Piece) (offsets : List ℕ) : Type 0 where
  pub sorted : IsNonDecreasing offsets
  pub depth : (depth : ℕ) → depth + 4 * count_below (depth + 1) offsets ≡ new_depth depth p

-- the run of a piece that began at an old offset
pub record IsRun (from : ℕ) (r : Run) (x : Placed) : Type 0 where
  pub start : r.from ≡ from
  pub end : r.end ≡ from + old_size x.piece
  pub place : r.at ≡ x.at
  pub deep : GoesDeep x.piece r.inserted

-- where the piece of a run ended
abbrev pub ending : Run → ℕ
ending r = r.end

-- the runs of pieces, one behind the other
abbrev pub AreRuns : ℕ → List Run → List Placed → Type 0
AreRuns from [] [] = Unit {0}
AreRuns from [] (x ∷ xs) = ⊥
AreRuns from (r ∷ rs) [] = ⊥
AreRuns from (r ∷ rs) (x ∷ xs) = IsRun from r x × AreRuns r.end rs xs

-- an interval whose offsets are numbers of 64 bits
pub record IsTight (s : Stretch) : Type 0 where
  pub size : stretch_size s < 2 ^ 62
  pub roomy : AreRoomy (placed s)
  pub small : old_sizes (placed s) < 2 ^ 62

pub record IsMoves (k : Moves) : Type 0 where
  pub runs : AreRuns 0 k.runs.items (placed k.stretch.now)
  pub end : k.end ≡ stretch_size k.stretch.now
  pub tight : IsTight k.stretch.now
