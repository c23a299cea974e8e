-- What cells are parts of, as one question for values, differences and entries: for the contracts of inner functions.
use Rattle.std.specs.Prelude.{ℕ, suc, ◌+◌, ◌*◌, ◌==◌, ◌&&◌, Bool, true, false, if◌then◌else◌, List, [], ◌∷◌, Option, Some, None}
use Rattle.std.specs.Option.{option_map_or, option_and_then}
use Rattle.cell_memory.specs.declared.whole.Entry.{Entry as EntryRecord}
use Rattle.cell_memory.specs.declared.whole.Whole.{Whole}
use Rattle.cell_memory.specs.declared.whole.Whole.TheVariants.{Value, Difference, Entry}
use Rattle.sym_expr.specs.declared.value.Value.{Value as ValueOf}
use Rattle.sym_expr.specs.declared.value.Value.TheVariants.{Diff}
use Rattle.sym_expr.specs.Values.{Cell, Part, Quarter, EntryPart, same_point, same_target, same_value}

abbrev pub same_entry : EntryRecord → EntryRecord → Bool
same_entry e f = (f.size == e.size) && ((f.scale == e.scale) && (same_point e.first f.first && same_point e.second f.second))

abbrev pub same_whole : Whole → Whole → Bool
same_whole (Value v) (Value w) = same_value v w
same_whole (Difference p q) (Difference r s) = same_target p r && same_target q s
same_whole (Entry e) (Entry f) = same_entry e f
same_whole _ _ = false

-- the place of a cell in what is stored whole, and what that is
abbrev pub part_in : Cell → Option (ℕ × Whole)
part_in (Part k v) = Some (k, Value v)
part_in (Quarter k p q) = Some (k, Difference p q)
part_in (EntryPart k size scale p q) = Some (k, Entry (record { size = size; scale = scale; first = p; second = q }))
part_in _ = None

-- the cell is the k-th part
abbrev pub is_part_of : ℕ → Whole → Cell → Bool
is_part_of k w c = option_map_or (λ (p : ℕ × Whole). (p.0 == k) && same_whole w p.1) (part_in c) false

-- the cells are its parts from the k-th on
abbrev pub are_parts_of : ℕ → Whole → List Cell → Bool
are_parts_of k w [] = true
are_parts_of k w (c ∷ cs) = is_part_of k w c && are_parts_of (suc k) w cs

-- that of which these are the first parts
abbrev pub whole_in : List Cell → Option Whole
whole_in [] = None
whole_in (c ∷ cs) = option_and_then (λ (p : ℕ × Whole). if are_parts_of 0 p.1 (c ∷ cs) then Some p.1 else None) (part_in c)

abbrev pub value_in : Whole → Option ValueOf
value_in (Value v) = Some v
value_in _ = None

abbrev pub difference_in : Whole → Option ValueOf
difference_in (Difference p q) = Some (Diff p q)
difference_in _ = None

abbrev pub entry_in : ℕ → Whole → Option EntryRecord
entry_in count (Entry e) = if e.size == count then Some e else None
entry_in count _ = None

-- the number of bytes, the low one first
abbrev pub number_of : List ℕ → ℕ
number_of [] = 0
number_of (b ∷ bytes) = b + 256 * number_of bytes
