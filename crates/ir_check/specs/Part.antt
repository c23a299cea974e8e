-- What is loaded of a module, as the checks hold it. What a check is stands in the other files.
use Rattle.std.specs.Prelude.{◌≡◌, ℕ, Bool, false, nat_lt, if◌then◌else◌, List, map, Option, Some, None}
use Rattle.std.specs.List.{flat_map}
use Rattle.std.specs.Option.{option_or, option_and_then, option_map_or}
use Rattle.std.specs.Str.{bytes_eq}
use Rattle.indexmap.specs.IndexMap.{get}
use Rattle.aux_codec.specs.declared.value.Place.{Place}
use Rattle.node_arena.specs.Arenas.{Arenas}
use Rattle.node_arena.specs.declared.ids.ModuleId.{ModuleId}
use Rattle.ir_check.specs.declared.part.LoadedPart.{LoadedPart}
use Rattle.ir_check.specs.declared.sites.Site.{Site}
use Rattle.ir_check.specs.declared.span.Span.{Span}
use Rattle.ir_check.specs.AtGraph.{loaded_ids, interval_ids}
use Rattle.ir_check.specs.Keyed.{value_at}
use Rattle.ir_check.specs.Sites.{sites_in, size_entry}
use Rattle.ir_check.specs.Spans.{span_of}

-- the loaded intervals of a module, and the blocks in them
abbrev pub spans_of : Arenas → ModuleId → List Span
spans_of g m = map (span_of g) (interval_ids g (loaded_ids g m))

pub record IsPart (g : Arenas) (m : ModuleId) (p : LoadedPart) : Type 0 where
  pub sections : p.sections.items ≡ loaded_ids g m
  pub intervals : p.intervals.items ≡ interval_ids g (loaded_ids g m)
  pub spans : p.spans.items ≡ spans_of g m
  pub sites : (id : List ℕ) → get bytes_eq p.sites id ≡ value_at bytes_eq id (flat_map sites_in (spans_of g m))
  pub sizes : (id : List ℕ) → get bytes_eq p.sizes id ≡ value_at bytes_eq id (map size_entry (spans_of g m))

-- the size of the interval, or of the code block, of an identifier
abbrev pub code_size_of : Site → Option ℕ
code_size_of s = if s.code then Some s.size else None

abbrev pub size_in : (List ℕ → Option ℕ) → (List ℕ → Option Site) → List ℕ → Option ℕ
size_in sizes sites id = option_or (sizes id) (option_and_then code_size_of (sites id))

-- the Place is past it
abbrev pub is_past_in : (List ℕ → Option ℕ) → (List ℕ → Option Site) → Place → Bool
is_past_in sizes sites place = option_map_or (λ size. nat_lt size place.offset) (size_in sizes sites place.id) false
