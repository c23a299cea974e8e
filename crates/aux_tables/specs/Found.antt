-- What is found in tables that are read one after another.
use Rattle.std.specs.Prelude.{◌≡◌, ℕ, Bool, List, [], map, find, codes, Option}
use Rattle.std.specs.Option.{option_map, option_map_or}
use Rattle.std.specs.declared.hash.BuildHasherDefault.{BuildHasherDefault}
use Rattle.std.specs.declared.hash.FoldHasher.{FoldHasher}
use Rattle.indexmap.specs.IndexMap.{IndexMap}
use Rattle.aux_codec.specs.declared.value.Place.{Place}
use Rattle.aux_tables.specs.ModuleTables.{is_table, numbers_of, sizes_of, shape_of_table, table_places, table_value}
use Rattle.aux_tables.specs.declared.found.Found.{Found}
use Rattle.gt_model.specs.declared.tables.Aux.{Aux}

-- the tables of these names and types
abbrev pub is_alignment : Aux → Bool
is_alignment a = is_table (codes "alignment") (codes "mapping<UUID,uint64_t>") a

abbrev pub is_sizes : Aux → Bool
is_sizes a = is_table (codes "symbolicExpressionSizes") (codes "mapping<Offset,uint64_t>") a

-- what a table gives to identifiers, and to Places
abbrev pub numbers_at : Aux → List (List ℕ × ℕ)
numbers_at a = option_map_or numbers_of (table_value a) []

abbrev pub sizes_at : Aux → List ((List ℕ × ℕ) × ℕ)
sizes_at a = option_map_or sizes_of (table_value a) []

-- the Places in a table, nothing for one whose type isn't parsed
abbrev pub places_held : Aux → Option (List Place)
places_held a = option_map (λ _. table_places a) (shape_of_table a)

-- the entries of a map
abbrev pub entries_of : {K : Type 0} → IndexMap K ℕ (BuildHasherDefault FoldHasher) → List (K × ℕ)
entries_of m = m.entries

-- the Places in each table are found, and the entries of the first table of each of the two names and types
pub record IsFound (tables : List Aux) (f : Found) : Type 0 where
  pub places : f.places.items ≡ map places_held tables
  pub alignment : option_map entries_of f.alignment ≡ option_map numbers_at (find is_alignment tables)
  pub sizes : option_map entries_of f.sizes ≡ option_map sizes_at (find is_sizes tables)
