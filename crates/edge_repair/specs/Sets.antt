-- The tables of a repaired module that name the blocks, entries and symbols of functions.
use Rattle.std.specs.Prelude.{ℕ, Bool, List, [], ◌∷◌, map, codes, if◌then◌else◌}
use Rattle.std.specs.Option.{option_map_or}
use Rattle.aux_codec.specs.Value.{Value, Id, Many, Pairs, Values, values, none, more, Entries, no_entry, entry}
use Rattle.aux_tables.specs.ModuleTables.{is_table}
use Rattle.gt_model.specs.declared.modules.Module.{Module}
use Rattle.gt_model.specs.declared.tables.Aux.{Aux}
use Rattle.edge_repair.specs.Edges.{later_parts}
use Rattle.rewrite.specs.Identifiers.{new_symbol_id}
use Rattle.sym_expr.specs.declared.patches.Function.{Function}
use Rattle.sym_expr.specs.declared.patches.PatchTable.{PatchTable}
use Rattle.sym_expr.specs.declared.program.Program.{Program}
use Rattle.sym_expr.specs.Derived.{derived, function_text}
use Rattle.sym_expr.specs.Patches.{function_blocks}
use Rattle.sym_expr.specs.Points.{code_at}
use Rattle.sym_expr.specs.TableOk.{block_ids}
use Rattle.sym_expr.specs.Targets.{function_block_id}

-- identifiers before other members of a set
abbrev pub before : List (List ℕ) → Values → Values
before [] xs = xs
before (id ∷ ids) xs = more (Id id) (before ids xs)

-- each block of a set, with its new parts directly behind it
abbrev pub with_parts : (List ℕ → List (List ℕ)) → Values → Values
with_parts later none = none
with_parts later (more (Id id) xs) = more (Id id) (before (later id) (with_parts later xs))
with_parts later (more x xs) = more x (with_parts later xs)

-- the same in each set of a mapping
abbrev pub sets_with_parts : (List ℕ → List (List ℕ)) → Entries → Entries
sets_with_parts later no_entry = no_entry
sets_with_parts later (entry key (Many xs) rest) = entry key (Many (with_parts later xs)) (sets_with_parts later rest)
sets_with_parts later (entry key value rest) = entry key value (sets_with_parts later rest)

-- the new parts of a block, none of one that isn't split
abbrev pub parts_of : Module → Program → List ℕ → List (List ℕ)
parts_of m g id = option_map_or (later_parts m) (code_at g id) []

-- ---- entries of the functions that patches bring

abbrev pub function_id : Module → Function → List ℕ
function_id m f = derived m.uuid (function_text f.name)

abbrev pub ids_value : List (List ℕ) → Value
ids_value ids = Many (values (map Id ids))

-- the set of its blocks, the set of its first block, and its symbol
abbrev pub blocks_value : Module → Function → Value
blocks_value m f = ids_value (block_ids m f 0 (function_blocks f))

abbrev pub entries_value : Module → Function → Value
entries_value m f = ids_value (function_block_id m f 0 ∷ [])

abbrev pub symbol_value : Module → Function → Value
symbol_value m f = Id (new_symbol_id m f.name)

-- an entry for each function, behind those that are there
abbrev pub with_functions : Module → (Function → Value) → List Function → Entries → Entries
with_functions m value [] no_entry = no_entry
with_functions m value (f ∷ fs) no_entry = entry (Id (function_id m f)) (value f) (with_functions m value fs no_entry)
with_functions m value fs (entry key x rest) = entry key x (with_functions m value fs rest)

-- ---- the three tables, each with exactly its type

abbrev pub is_blocks_table : Aux → Bool
is_blocks_table a = is_table (codes "functionBlocks") (codes "mapping<UUID,set<UUID>>") a

abbrev pub is_entries_table : Aux → Bool
is_entries_table a = is_table (codes "functionEntries") (codes "mapping<UUID,set<UUID>>") a

abbrev pub is_names_table : Aux → Bool
is_names_table a = is_table (codes "functionNames") (codes "mapping<UUID,UUID>") a

abbrev pub function_entries : Module → Program → PatchTable → Aux → Entries → Entries
function_entries m g p a es =
    if is_blocks_table a then with_functions m (blocks_value m) p.functions (sets_with_parts (parts_of m g) es)
    else if is_entries_table a then with_functions m (entries_value m) p.functions es
    else if is_names_table a then with_functions m (symbol_value m) p.functions es
    else es

-- what the value of a table becomes
abbrev pub function_value : Module → Program → PatchTable → Aux → Value → Value
function_value m g p a (Pairs es) = Pairs (function_entries m g p a es)
function_value m g p a x = x
