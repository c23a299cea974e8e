-- Modules that have a program: each list names, in order, what is wrong with a module (the rules are ours).
use Rattle.std.specs.Prelude.{◌≡◌, ℕ, ◌%◌, ◌^◌, ◌<◌, ◌≤◌, Bool, false, ◌==◌, ◌&&◌, not, nat_lt, IsTrue, List, [], length, filter, sum_by, drop, Contains}
use Rattle.std.specs.List.{flat_map, list_any, zip}
use Rattle.std.specs.Option.{option_map_or}
use Rattle.gt_model.specs.declared.intervals.Block.{Block}
use Rattle.gt_model.specs.declared.intervals.Interval.{Interval}
use Rattle.gt_model.specs.declared.ir.Ir.{Ir}
use Rattle.gt_model.specs.declared.modules.Module.{Module}
use Rattle.gt_model.specs.declared.modules.Section.{Section}
use Rattle.gt_model.specs.Linked.{well_linked}
use Rattle.gt_model.specs.Ordered.{ordered}
use Rattle.sym_expr.specs.Expressions.{expr_faults}
use Rattle.sym_expr.specs.Modules.{has_flag, loaded_sections, loaded_intervals, blocks_of, size_of, end_of, is_code, in_order, has_id}
use Rattle.sym_expr.specs.Tables.{Tables}

-- the sections that are thread-local
abbrev pub thread_locals : List Section → List Section
thread_locals sections = filter (has_flag 6) sections

-- the bytes of all intervals
abbrev pub total_size : List Interval → ℕ
total_size intervals = sum_by (λ (i : Interval). i.size) intervals

-- the contents are longer than the size
abbrev pub is_long : Interval → Bool
is_long i = nat_lt i.size (length i.contents)

-- the intervals of which it is so
abbrev pub long_intervals : List Interval → List Interval
long_intervals intervals = filter is_long intervals

-- the block passes so many bytes
abbrev pub passes : ℕ → Block → Bool
passes size b = nat_lt size (end_of b)

-- the blocks that pass the end of their interval
abbrev pub blocks_outside : Interval → List Block
blocks_outside i = filter (passes i.size) i.blocks

abbrev pub outside_blocks : List Interval → List Block
outside_blocks intervals = flat_map blocks_outside intervals

-- neighbours in block order of which the second begins before the first one's end
abbrev pub is_overlap : Block × Block → Bool
is_overlap pair = nat_lt pair.1.offset (end_of pair.0)

abbrev pub overlaps_among : List Block → List (Block × Block)
overlaps_among blocks = filter is_overlap (zip blocks (drop 1 blocks))

abbrev pub overlaps_in : Interval → List (Block × Block)
overlaps_in i = overlaps_among (in_order i.blocks)

abbrev pub overlaps : List Interval → List (Block × Block)
overlaps intervals = flat_map overlaps_in intervals

-- a code block that isn't made of whole words at their places
abbrev pub is_crooked : Block → Bool
is_crooked b = is_code b && not ((b.offset % 4 == 0) && (size_of b % 4 == 0))

abbrev pub crooked_in : Interval → List Block
crooked_in i = filter is_crooked i.blocks

abbrev pub crooked_blocks : List Interval → List Block
crooked_blocks intervals = flat_map crooked_in intervals

-- the intervals have a block of this identifier
abbrev pub have_block : List Interval → List ℕ → Bool
have_block intervals id = list_any (has_id id) (blocks_of intervals)

-- the entry is in a loaded section
abbrev pub is_entered : Module → Bool
is_entered m = option_map_or (have_block (loaded_intervals m)) m.entry false

-- nothing is wrong with a module, where its loaded intervals may have so many bytes
pub record IsFaultless (most : ℕ) (m : Module) (t : Tables) : Type 0 where
  pub no_thread_local : thread_locals (loaded_sections m) ≡ []
  pub small : total_size (loaded_intervals m) ≤ most
  pub no_long : long_intervals (loaded_intervals m) ≡ []
  pub inside : outside_blocks (loaded_intervals m) ≡ []
  pub apart : overlaps (loaded_intervals m) ≡ []
  pub straight : crooked_blocks (loaded_intervals m) ≡ []
  pub entered : IsTrue (is_entered m)
  pub exprs : expr_faults m t ≡ []

-- a module of an IR that has a program, with the tables that it has
pub record linkable (ir : Ir) (m : Module) (t : Tables) : Type 0 where
  pub linked : well_linked ir
  pub in_order : ordered ir
  pub member : Contains ir.modules m
  pub faultless : IsFaultless (2 ^ 24) m t

-- the same of one that patches may have made larger
pub record formed (ir : Ir) (m : Module) (t : Tables) : Type 0 where
  pub linked : well_linked ir
  pub in_order : ordered ir
  pub member : Contains ir.modules m
  pub faultless : IsFaultless (2 ^ 40) m t
  pub few : length (loaded_intervals m) < 2 ^ 40
