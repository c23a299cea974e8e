-- The identifiers that tables name: those of UUIDs and of Places.
use Rattle.std.specs.Prelude.{ℕ, List, [], ◌∷◌, ◌++◌}
use Rattle.std.specs.List.{flat_map}
use Rattle.std.specs.Option.{option_map_or}
use Rattle.aux_codec.specs.Value.{Value, Str, Truth, Id, Number, Signed, At, Four, Eight, Many, Pairs, Parts, Choice, Values, none, more, Entries, no_entry, entry}
use Rattle.aux_tables.specs.ModuleTables.{table_value}
use Rattle.gt_model.specs.declared.modules.Module.{Module}
use Rattle.gt_model.specs.declared.tables.Aux.{Aux}

-- the identifiers in a value, in order
abbrev mutual
  pub ids_of : Value → List (List ℕ)
  ids_of (Id id) = id ∷ []
  ids_of (At place) = place.id ∷ []
  ids_of (Many xs) = ids_of_each xs
  ids_of (Pairs es) = ids_of_entries es
  ids_of (Parts xs) = ids_of_each xs
  ids_of (Choice n x) = ids_of x
  ids_of _ = []

  pub ids_of_each : Values → List (List ℕ)
  ids_of_each none = []
  ids_of_each (more x xs) = ids_of x ++ ids_of_each xs

  pub ids_of_entries : Entries → List (List ℕ)
  ids_of_entries no_entry = []
  ids_of_entries (entry k x es) = ids_of k ++ (ids_of x ++ ids_of_entries es)

-- those in a table, none where its type isn't parsed or its bytes aren't decoded
abbrev pub table_ids : Aux → List (List ℕ)
table_ids a = option_map_or ids_of (table_value a) []

-- those in all tables
abbrev pub tables_ids : List Aux → List (List ℕ)
tables_ids tables = flat_map table_ids tables

abbrev pub named_ids : Module → List (List ℕ)
named_ids m = tables_ids m.aux
