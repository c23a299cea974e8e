-- The order of keys: one that stands behind all before it is new.
use Rattle.std.specs.Prelude.{ℕ, ◌-◌, nat_lt, if◌then◌else◌, List, length, take, drop}
use Rattle.std.specs.Int.{w64, from_le_bytes}
use Rattle.std.specs.List.Sorted.{IsStrictlySortedBy}
use Rattle.std.specs.declared.cmp.Ordering.{Ordering}
use Rattle.std.specs.Ordering.{nat_cmp, ordering_then}
use Rattle.std.specs.Cmp.Lexicographic.{slice_cmp}

-- the bytes before the last eight, and the last eight as a number, as in a Place; all bytes where there are fewer
abbrev pub rank : List ℕ → List ℕ × ℕ
rank bytes = if nat_lt (length bytes) 8 then (bytes, 0) else (take (length bytes - 8) bytes, from_le_bytes w64 (drop (length bytes - 8) bytes))

-- by the bytes, then by the number
abbrev pub by_rank : List ℕ → List ℕ → Ordering
by_rank x y = ordering_then (slice_cmp nat_cmp (rank x).0 (rank y).0) (nat_cmp (rank x).1 (rank y).1)

-- each key stands before those behind it
abbrev pub Ascend : List (List ℕ) → Type 0
Ascend keys = IsStrictlySortedBy by_rank keys
