-- What the auxiliary tables of a module hold.
use Rattle.std.specs.Prelude.{ℕ, Bool, ◌&&◌, List, [], ◌++◌, find, Option, Some, None, Result, Ok, Err, codes}
use Rattle.std.specs.Option.{option_map, option_map_or, option_and_then, option_to_list}
use Rattle.std.specs.Str.{bytes_eq}
use Rattle.aux_types.specs.Reading.{read_type}
use Rattle.aux_types.specs.Shape.{Shape}
use Rattle.aux_codec.specs.Reading.{read_value}
use Rattle.aux_codec.specs.Value.{Value, Id, Number, At, Pairs, Entries, no_entry, entry}
use Rattle.aux_codec.specs.Places.{places_of}
use Rattle.aux_codec.specs.Spelling.{HasDistinctKeys}
use Rattle.aux_codec.specs.declared.value.Place.{Place}
use Rattle.gr_base.specs.declared.aux_fault.AuxFault.{AuxFault}
use Rattle.gt_model.specs.declared.modules.Module.{Module}
use Rattle.gt_model.specs.declared.tables.Aux.{Aux}
use Rattle.sym_expr.specs.Tables.{Tables}

abbrev pub result_option : {A F : Type 0} → Result A F → Option A
result_option (Ok x) = Some x
result_option (Err e) = None

-- the type of a table, if it is one that is parsed
abbrev pub shape_of_table : Aux → Option Shape
shape_of_table a = result_option (read_type a.type_name)

-- what a table of a parsed type holds, or its fault
abbrev pub decoded : Aux → Option (Result Value AuxFault)
decoded a = option_map (λ shape. read_value shape a.bytes) (shape_of_table a)

abbrev pub fault_in : Result Value AuxFault → Option AuxFault
fault_in (Ok x) = None
fault_in (Err f) = Some f

-- what a table holds, none where its type is not parsed, or its fault
abbrev pub held_if : Option (Result Value AuxFault) → Result (Option Value) AuxFault
held_if None = Ok None
held_if (Some (Ok x)) = Ok (Some x)
held_if (Some (Err f)) = Err f

abbrev pub held : Aux → Result (Option Value) AuxFault
held a = held_if (decoded a)

-- the Places that a table holds
abbrev pub places_if : Result (Option Value) AuxFault → Result (Option (List Place)) AuxFault
places_if (Ok x) = Ok (option_map places_of x)
places_if (Err f) = Err f

abbrev pub held_places : Aux → Result (Option (List Place)) AuxFault
held_places a = places_if (held a)

-- no key of a mapping comes twice
abbrev pub HasOwnKeys : Value → Type 0
HasOwnKeys (Pairs entries) = HasDistinctKeys entries
HasOwnKeys _ = Unit {0}

-- the fault of a table of a parsed type
abbrev pub table_fault : Aux → Option AuxFault
table_fault a = option_and_then fault_in (decoded a)

-- the value of a table
abbrev pub table_value : Aux → Option Value
table_value a = option_and_then result_option (decoded a)

-- the Places in a table, in order of reading
abbrev pub table_places : Aux → List Place
table_places a = option_map_or places_of (table_value a) []

-- the table has a name, and its type is of this name
abbrev pub is_table : List ℕ → List ℕ → Aux → Bool
is_table name type a = bytes_eq name a.name && bytes_eq type a.type_name

-- the value of the table of a name and a type
abbrev pub value_named : List ℕ → List ℕ → List Aux → Option Value
value_named name type tables = option_and_then table_value (find (is_table name type) tables)

-- a mapping from Places to numbers: what one entry gives, and all of them
abbrev pub size_entry : Value → Value → Option ((List ℕ × ℕ) × ℕ)
size_entry (At place) (Number n) = Some ((place.id, place.offset), n)
size_entry key value = None

abbrev pub sizes_in : Entries → List ((List ℕ × ℕ) × ℕ)
sizes_in no_entry = []
sizes_in (entry key value rest) = option_to_list (size_entry key value) ++ sizes_in rest

abbrev pub sizes_of : Value → List ((List ℕ × ℕ) × ℕ)
sizes_of (Pairs entries) = sizes_in entries
sizes_of _ = []

-- a mapping from identifiers to numbers
abbrev pub number_entry : Value → Value → Option (List ℕ × ℕ)
number_entry (Id id) (Number n) = Some (id, n)
number_entry key value = None

abbrev pub numbers_in : Entries → List (List ℕ × ℕ)
numbers_in no_entry = []
numbers_in (entry key value rest) = option_to_list (number_entry key value) ++ numbers_in rest

abbrev pub numbers_of : Value → List (List ℕ × ℕ)
numbers_of (Pairs entries) = numbers_in entries
numbers_of _ = []

abbrev pub expr_sizes : List Aux → List ((List ℕ × ℕ) × ℕ)
expr_sizes tables = option_map_or sizes_of (value_named (codes "symbolicExpressionSizes") (codes "mapping<Offset,uint64_t>") tables) []

abbrev pub alignments : List Aux → List (List ℕ × ℕ)
alignments tables = option_map_or numbers_of (value_named (codes "alignment") (codes "mapping<UUID,uint64_t>") tables) []

-- the two tables that say something of a program; one that is absent, of another type or not decoded says nothing
abbrev pub tables_among : List Aux → Tables
tables_among tables = record { alignment = alignments tables; sizes = expr_sizes tables }

abbrev pub tables_of : Module → Tables
tables_of m = tables_among m.aux
