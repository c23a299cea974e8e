-- What the three tables of functions hold.
use Rattle.aux_codec.specs.Value.{Value, Id, Many, Entries, no_entry, entry, count, count_entries}
use Rattle.aux_types.specs.Shape.{Shape, Mapping, Plain, Set}
use Rattle.aux_types.specs.declared.name.Scalar.TheVariants as s
use Rattle.edge_repair.specs.Sets.{blocks_value, entries_value, function_id, is_blocks_table, is_entries_table, is_names_table, sets_with_parts, symbol_value, with_functions, with_parts}
use Rattle.gt_model.specs.declared.modules.Module.{Module}
use Rattle.gt_model.specs.declared.tables.Aux.{Aux}
use Rattle.function_tables.specs.declared.kinds.TableKind.{TableKind}
use Rattle.function_tables.specs.declared.kinds.TableKind.TheVariants as kinds
use Rattle.std.specs.Prelude.{◌<◌, ◌^◌, ℕ, List, length, Option, Some, None, if◌then◌else◌}
use Rattle.std.specs.List.{AllByRecursion}
use Rattle.sym_expr.specs.declared.patches.Function.{Function}
use Rattle.sym_expr.specs.Patches.{function_blocks}

-- which of the three a table is, by its name and type
abbrev pub kind_in : Aux → Option TableKind
kind_in a = if is_blocks_table a then Some kinds.Blocks else if is_entries_table a then Some kinds.Entries else if is_names_table a then Some kinds.Names else None

-- the type of a table
abbrev pub type_of : TableKind → Shape
type_of kinds.Blocks = Mapping (Plain s.Id) (Set (Plain s.Id))
type_of kinds.Entries = Mapping (Plain s.Id) (Set (Plain s.Id))
type_of kinds.Names = Mapping (Plain s.Id) (Plain s.Id)

-- what it has of a function
abbrev pub value_in : TableKind → Module → Function → Value
value_in kinds.Blocks m f = blocks_value m f
value_in kinds.Entries m f = entries_value m f
value_in kinds.Names m f = symbol_value m f

-- the entry of a function
abbrev pub entry_in : TableKind → Module → Function → Value × Value
entry_in kind m f = (Id (function_id m f), value_in kind m f)

-- the entries that were there, with the new parts of blocks
abbrev pub split_in : TableKind → (List ℕ → List (List ℕ)) → Entries → Entries
split_in kinds.Blocks later es = sets_with_parts later es
split_in kinds.Entries later es = es
split_in kinds.Names later es = es

-- all entries, those of functions last
abbrev pub entries_in : TableKind → Module → (List ℕ → List (List ℕ)) → List Function → Entries → Entries
entries_in kind m later fs es = with_functions m (value_in kind m) fs (split_in kind later es)

-- no set has more members with its parts than can be counted
abbrev pub HasFewParts : (List ℕ → List (List ℕ)) → Entries → Type 0
HasFewParts later no_entry = Unit {0}
HasFewParts later (entry key (Many xs) rest) = (count (with_parts later xs) < 2 ^ 64) × HasFewParts later rest
HasFewParts later (entry key x rest) = HasFewParts later rest

abbrev pub IsSplit : TableKind → (List ℕ → List (List ℕ)) → Entries → Type 0
IsSplit kinds.Blocks later es = HasFewParts later es
IsSplit kinds.Entries later es = Unit {0}
IsSplit kinds.Names later es = Unit {0}

-- the set of a function's blocks, where the table has it, has no more members than can be counted
abbrev pub IsFew : TableKind → Function → Type 0
IsFew kinds.Blocks f = length (function_blocks f) < 2 ^ 64
IsFew kinds.Entries f = Unit {0}
IsFew kinds.Names f = Unit {0}

-- so has each set that was there, and the table
pub record HasFewEntries (kind : TableKind) (m : Module) (later : List ℕ → List (List ℕ)) (fs : List Function) (es : Entries) : Type 0 where
  pub sets : IsSplit kind later es
  pub blocks : AllByRecursion (IsFew kind) fs
  pub all : count_entries (entries_in kind m later fs es) < 2 ^ 64
