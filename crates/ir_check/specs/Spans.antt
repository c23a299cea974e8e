-- Loaded intervals as the checks go over them. What a check is stands in the other files.
use Rattle.std.specs.Prelude.{ℕ, ◌+◌, ◌*◌, ◌<◌, Bool, nat_lt, if◌then◌else◌, List, [], ◌∷◌, length, drop, find, Option, Some, None, All}
use Rattle.std.specs.List.{zip}
use Rattle.std.specs.Option.{option_or}
use Rattle.gt_model.specs.declared.intervals.Block.{Block}
use Rattle.node_arena.specs.Arenas.{Arenas}
use Rattle.node_arena.specs.Plain.{plain_interval}
use Rattle.node_arena.specs.declared.ids.BlockId.{BlockId}
use Rattle.node_arena.specs.declared.ids.IntervalId.{IntervalId}
use Rattle.node_arena.specs.declared.ids.SectionId.{SectionId}
use Rattle.ir_check.specs.declared.span.Span.{Span}
use Rattle.sym_expr.specs.Linkable.{passes, is_overlap, is_crooked}
use Rattle.sym_expr.specs.Modules.{in_order, is_empty}

-- identifiers of nodes that are there
abbrev pub AreSections : Arenas → List SectionId → Type 0
AreSections g ids = All (λ (id : SectionId). id.index < length g.sections) ids

abbrev pub AreIntervals : Arenas → List IntervalId → Type 0
AreIntervals g ids = All (λ (id : IntervalId). id.index < length g.intervals) ids

abbrev pub AreBlocks : Arenas → List BlockId → Type 0
AreBlocks g ids = All (λ (id : BlockId). id.index < length g.blocks) ids

-- a number by which blocks are in order
abbrev pub rank : Block → ℕ
rank b = 2 * b.offset + (if is_empty b then 0 else 1)

abbrev pub span_of : Arenas → IntervalId → Span
span_of g id = let i = plain_interval g id in record {
  interval = id;
  uuid = i.uuid;
  size = i.size;
  stored = length i.contents;
  blocks = i.blocks;
  ordered = in_order i.blocks;
}

-- the first answer of a function along a list
abbrev pub first_in : {X Y : Type 0} → (X → Option Y) → List X → Option Y
first_in f [] = None
first_in f (x ∷ rest) = option_or (f x) (first_in f rest)

-- a value, where a test holds
abbrev pub only_if : {A : Type 0} → Bool → A → Option A
only_if test x = if test then Some x else None

abbrev pub long_in : Span → Option (List ℕ)
long_in s = only_if (nat_lt s.size s.stored) s.uuid

abbrev pub outside_in : Span → Option Block
outside_in s = find (passes s.size) s.blocks

abbrev pub overlap_in : Span → Option (Block × Block)
overlap_in s = find is_overlap (zip s.ordered (drop 1 s.ordered))

abbrev pub crooked_in : Span → Option Block
crooked_in s = find is_crooked s.blocks
