-- The parts of a module that programs are made of: loaded sections, their intervals and bytes, blocks in order.
use Rattle.std.specs.Prelude.{ℕ, zero, suc, ◌+◌, pos, Bool, true, false, ◌==◌, ◌&&◌, ◌||◌, not, nat_lt, nat_le, if◌then◌else◌, List, [], ◌∷◌, slice_index, filter, find, Option}
use Rattle.std.specs.Int.{w32, from_le_bytes}
use Rattle.std.specs.List.{list_any, flat_map}
use Rattle.std.specs.Ordering.{int_eq}
use Rattle.std.specs.Str.{bytes_eq}
use Rattle.gt_model.specs.declared.intervals.Block.{Block}
use Rattle.gt_model.specs.declared.intervals.Body.{Body}
use Rattle.gt_model.specs.declared.intervals.Body.TheVariants as bodies
use Rattle.gt_model.specs.declared.intervals.Interval.{Interval}
use Rattle.gt_model.specs.declared.modules.Module.{Module}
use Rattle.gt_model.specs.declared.modules.Section.{Section}
use Rattle.uuid.specs.Parts.{zero_bytes}

-- the section has a flag: GTIRB's Loaded is 4, ThreadLocal 6
abbrev pub has_flag : ℕ → Section → Bool
has_flag flag s = list_any (int_eq (pos flag)) s.flags

abbrev pub is_loaded : Section → Bool
is_loaded s = has_flag 4 s

abbrev pub loaded_sections : Module → List Section
loaded_sections m = filter is_loaded m.sections

abbrev pub intervals_of : List Section → List Interval
intervals_of sections = flat_map (λ (s : Section). s.intervals) sections

abbrev pub loaded_intervals : Module → List Interval
loaded_intervals m = intervals_of (loaded_sections m)

abbrev pub blocks_of : List Interval → List Block
blocks_of intervals = flat_map (λ (i : Interval). i.blocks) intervals

-- the identifier of a block, nil for one that has none, and its size
abbrev pub id_of_body : Body → List ℕ
id_of_body bodies.Bare = zero_bytes
id_of_body (bodies.Code uuid size decode_mode) = uuid
id_of_body (bodies.Data uuid size) = uuid

abbrev pub size_of_body : Body → ℕ
size_of_body bodies.Bare = 0
size_of_body (bodies.Code uuid size decode_mode) = size
size_of_body (bodies.Data uuid size) = size

abbrev pub is_code_body : Body → Bool
is_code_body (bodies.Code uuid size decode_mode) = true
is_code_body _ = false

abbrev pub id_of : Block → List ℕ
id_of b = id_of_body b.body

abbrev pub size_of : Block → ℕ
size_of b = size_of_body b.body

abbrev pub is_code : Block → Bool
is_code b = is_code_body b.body

abbrev pub end_of : Block → ℕ
end_of b = b.offset + size_of b

abbrev pub is_empty : Block → Bool
is_empty b = size_of b == 0

-- the block has this byte of its interval
abbrev pub covers : ℕ → Block → Bool
covers at b = nat_le b.offset at && nat_lt at (end_of b)

-- block order (ours): by offset, and at one offset empty blocks first
abbrev pub goes_before : Block → Block → Bool
goes_before a b = nat_lt a.offset b.offset || ((a.offset == b.offset) && (is_empty a && not (is_empty b)))

-- a block among blocks in order, before those that it is not behind
abbrev pub put_in_order : Block → List Block → List Block
put_in_order b [] = b ∷ []
put_in_order b (c ∷ cs) = if goes_before c b then c ∷ put_in_order b cs else b ∷ c ∷ cs

-- blocks in order; what stands level keeps the order of the file
abbrev pub in_order : List Block → List Block
in_order [] = []
in_order (b ∷ bs) = put_in_order b (in_order bs)

-- a byte of an interval: of its contents, and 0 behind them
abbrev pub byte_at : Interval → ℕ → ℕ
byte_at i at = slice_index i.contents at

-- so many bytes of an interval from an offset on
abbrev pub bytes_at : Interval → ℕ → ℕ → List ℕ
bytes_at i at zero = []
bytes_at i at (suc n) = byte_at i at ∷ bytes_at i (at + 1) n

-- the word at an offset, which is little endian
abbrev pub word_of : Interval → ℕ → ℕ
word_of i at = from_le_bytes w32 (bytes_at i at 4)

abbrev pub has_id : List ℕ → Block → Bool
has_id id b = bytes_eq (id_of b) id

-- the block of an identifier
abbrev pub block_of : List ℕ → List Block → Option Block
block_of id blocks = find (has_id id) blocks

-- the interval that has the block of an identifier
abbrev pub interval_of : List ℕ → List Interval → Option Interval
interval_of id intervals = find (λ (i : Interval). list_any (has_id id) i.blocks) intervals
