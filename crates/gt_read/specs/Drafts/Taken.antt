-- What is taken of bytes to which more may come.
use Rattle.std.specs.Prelude.{◌≡◌, ℕ, ◌+◌, ◌≤◌, List, [], ◌++◌, length, drop}
use Rattle.std.specs.List.{flat_map}
use Rattle.gt_read.specs.declared.fault.FormatFault.{FormatFault}
use Rattle.gt_read.specs.Pieces.{Piece, Walk, walk}
use Rattle.gt_read.specs.Drafts.Answers.{Folds}

-- pieces, and those of a walk behind them
abbrev pub behind : List Piece → Walk → Walk
behind ps w = record { pieces = ps ++ w.pieces; broken = w.broken }

-- whole records of the first bytes, so many, are taken, and nothing is wrong with them; whatever follows the
-- bytes, the records are these and then those of the rest
pub record TakesFront {D : Type 0} (steps : D → Piece → D → Type 0) (faults : Piece → List FormatFault) (bytes : List ℕ) (base : ℕ) (first : D) (at : ℕ) (draft : D) : Type 0 where
  pub done : List Piece
  pub within : at ≤ length bytes
  pub folded : Folds steps first done draft
  pub sound : flat_map faults done ≡ []
  pub walks : (rest : List ℕ) → walk (bytes ++ rest) base ≡ behind done (walk (drop at bytes ++ rest) (base + at))
