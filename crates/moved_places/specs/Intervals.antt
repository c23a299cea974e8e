-- Where the bytes of an interval go, as it is kept.
use Rattle.std.specs.Prelude.{◌≡◌, ℕ, ◌+◌, ◌-◌, ◌*◌, nat_lt, List, [], ◌∷◌, length, filter, find}
use Rattle.std.specs.Option.{option_map_or}
use Rattle.moved_places.specs.declared.interval.IntervalMoves.{IntervalMoves}
use Rattle.moved_places.specs.declared.kept.PieceMoves.{PieceMoves}
use Rattle.rewrite.specs.Offsets.{new_depth, old_size}
use Rattle.sym_expr.specs.Placing.{Placed}

-- how many numbers are below a bound
abbrev pub count_below : ℕ → List ℕ → ℕ
count_below bound ns = length (filter (λ n. nat_lt n bound) ns)

-- how deep a byte is in its piece once words are inserted up to it
abbrev pub depth_kept : ℕ → List ℕ → ℕ
depth_kept depth inserted = depth + 4 * count_below (depth + 1) inserted

-- where an offset in a piece goes
abbrev pub offset_in : ℕ → PieceMoves → ℕ
offset_in offset p = p.at + depth_kept (offset - p.from) p.inserted

-- where an offset of an interval goes: with the first piece that ends behind it, or to the end
abbrev pub offset_among : ℕ → List PieceMoves → ℕ → ℕ
offset_among offset pieces end = option_map_or (offset_in offset) (find (λ (p : PieceMoves). nat_lt offset p.until) pieces) end

abbrev pub offset_kept : IntervalMoves → ℕ → ℕ
offset_kept i offset = offset_among offset i.pieces i.end

-- a placed piece, whose bytes began at an offset, is kept so
pub record IsKept (from : ℕ) (x : Placed) (p : PieceMoves) : Type 0 where
  pub began : p.from ≡ from
  pub ended : p.until ≡ from + old_size x.piece
  pub begins : p.at ≡ x.at
  pub depths : (depth : ℕ) → depth_kept depth p.inserted ≡ new_depth depth x.piece

-- so are pieces whose bytes began at one offset and ended at another
abbrev pub AreKept : ℕ → List Placed → List PieceMoves → ℕ → Type 0
AreKept from [] [] to = from ≡ to
AreKept from [] (p ∷ ps) to = ⊥
AreKept from (x ∷ xs) [] to = ⊥
AreKept from (x ∷ xs) (p ∷ ps) to = IsKept from x p × AreKept (from + old_size x.piece) xs ps to
