-- The cells that the bytes, the marks and the kept wholes of an object stand for.
use Rattle.std.specs.Prelude.{ℕ, zero, suc, ◌+◌, ◌-◌, ◌==◌, ◌&&◌, Bool, nat_lt, nat_le, if◌then◌else◌, List, [], ◌∷◌, ◌++◌, length, take, drop, Option, Some, None}
use Rattle.std.specs.Map.{lookup}
use Rattle.std.specs.Option.{option_map_or}
use Rattle.cell_memory.specs.declared.cells.Cells.{Cells}
use Rattle.cell_memory.specs.declared.whole.Span.{Span}
use Rattle.cell_memory.specs.declared.whole.Whole.{Whole}
use Rattle.cell_memory.specs.declared.whole.Whole.TheVariants.{Value, Difference, Entry}
use Rattle.sym_expr.specs.Values.{Cell, Byte, Part, Quarter, EntryPart, Blank}

-- the k-th cell of what is stored whole
abbrev pub part_of : Whole → ℕ → Cell
part_of (Value v) k = Part k v
part_of (Difference p q) k = Quarter k p q
part_of (Entry e) k = EntryPart k e.size e.scale e.first e.second

-- what is kept for a first offset and a number of cells
abbrev pub Kept : Type 0
Kept = Span → Option Whole

abbrev pub same_span : Span → Span → Bool
same_span a b = (a.start == b.start) && (a.count == b.count)

abbrev pub span : ℕ → ℕ → Span
span start count = record { start = start; count = count }

-- the k-th cell at an offset of what has so many cells
abbrev pub part_at : Kept → ℕ → ℕ → ℕ → Cell
part_at kept at k count =
    if nat_lt k count && nat_le k at then option_map_or (λ w. part_of w k) (kept (span (at - k) count)) Blank else Blank

-- the cell at an offset: under the mark 0 its byte; under another, one more than its place in what is stored whole,
-- whose cells the byte counts
abbrev pub cell_at : Kept → ℕ → ℕ → ℕ → Cell
cell_at kept at byte zero = Byte byte
cell_at kept at byte (suc k) = part_at kept at k byte

-- the cells from an offset on, of so many bytes with marks
abbrev pub cells_from : Kept → ℕ → List ℕ → List ℕ → List Cell
cells_from kept at [] marks = []
cells_from kept at (byte ∷ bytes) [] = []
cells_from kept at (byte ∷ bytes) (mark ∷ marks) = cell_at kept at byte mark ∷ cells_from kept (suc at) bytes marks

-- what an object keeps
abbrev pub kept_in : Cells → Kept
kept_in c at = lookup (same_span at) c.wholes.entries

-- the place in what is stored whole of the cell at an offset, with this byte and mark, and where that stands: for the
-- contracts of inner functions
abbrev pub place_of : ℕ → ℕ → ℕ → Option (ℕ × Span)
place_of at byte zero = None
place_of at byte (suc k) = if nat_lt k byte && nat_le k at then Some (k, span (at - k) byte) else None

-- all its cells
abbrev pub shown : Cells → List Cell
shown c = cells_from (kept_in c) 0 c.bytes.items c.marks.items

-- a list with others in place of its own from a place on: for the contracts of inner functions
abbrev pub with_part : List ℕ → ℕ → List ℕ → List ℕ
with_part old place new = take place old ++ new ++ drop (place + length new) old
