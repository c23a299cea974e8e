-- What an index of a module knows.
use Rattle.std.specs.Prelude.{◌≡◌, ℕ, List, [], Option}
use Rattle.std.specs.HashMap.{get_by_text}
use Rattle.std.specs.Option.{option_map, unwrap_or}
use Rattle.std.specs.Str.{bytes_eq}
use Rattle.indexmap.specs.IndexMap.{get}
use Rattle.gt_model.specs.declared.symbols.Symbol.{Symbol}
use Rattle.patch_lines.specs.declared.index.Index.{Index}
use Rattle.patch_lines.specs.Faults.{block_at}
use Rattle.patch_lines.specs.Naming.{use_at, uses_named}

-- the symbols by name and by identifier, and the blocks of loaded sections
pub record Knows (index : Index) : Type 0 where
  pub named : (q : List ℕ) → unwrap_or (get_by_text index.names q) [] ≡ uses_named index.«module».symbols q
  pub symbols : (id : List ℕ) → get bytes_eq index.symbols id ≡ option_map (λ (s : Symbol). s.payload) (use_at index.«module».symbols id)
  pub blocks : (id : List ℕ) → get bytes_eq index.blocks id ≡ block_at index.«module» id
