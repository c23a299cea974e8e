-- What loaded intervals have, as lists of identifiers with what they stand for. What a check is stands in the other files.
use Rattle.std.specs.Prelude.{ℕ, List, map, if◌then◌else◌, Option, unwrap_or}
use Rattle.std.specs.Option.{option_map_or}
use Rattle.gt_model.specs.declared.intervals.Block.{Block}
use Rattle.gt_model.specs.declared.symbols.Payload.{Payload}
use Rattle.gt_model.specs.declared.symbols.Payload.TheVariants as payloads
use Rattle.ir_check.specs.declared.sites.Site.{Site}
use Rattle.ir_check.specs.declared.span.Span.{Span}
use Rattle.node_arena.specs.Arenas.{Arenas, symbol_at}
use Rattle.node_arena.specs.Plain.{plain_payload}
use Rattle.node_arena.specs.declared.ids.SymbolId.{SymbolId}
use Rattle.sym_expr.specs.declared.aim.Aim.{Aim}
use Rattle.sym_expr.specs.declared.aim.Aim.TheVariants as aims
use Rattle.sym_expr.specs.Modules.{id_of, is_code, size_of}

-- a block of an interval
abbrev pub site : List ℕ → Block → Site
site interval b = record { size = size_of b; code = is_code b; interval = interval }

abbrev pub site_entry : List ℕ → Block → List ℕ × Site
site_entry interval b = (id_of b, site interval b)

abbrev pub sites_in : Span → List (List ℕ × Site)
sites_in s = map (site_entry s.uuid) s.blocks

abbrev pub size_entry : Span → List ℕ × ℕ
size_entry s = (s.uuid, s.size)

-- what a symbol names, by its payload and the loaded blocks
abbrev pub aim_at : Site → Aim
aim_at s = if s.code then aims.Code s.interval else aims.Data

abbrev pub payload_aim : (List ℕ → Option Site) → Payload → Aim
payload_aim found payloads.Nothing = aims.Undefined
payload_aim found (payloads.Value value) = aims.Number
payload_aim found (payloads.Referent id) = option_map_or aim_at (found id) aims.Undefined

abbrev pub aim_entry : Arenas → (List ℕ → Option Site) → SymbolId → List ℕ × Aim
aim_entry g found id = ((symbol_at g id).uuid, payload_aim found (plain_payload g (symbol_at g id).payload))

-- what is found of a symbol; one that is not there is undefined
abbrev pub aim_in : (List ℕ → Option Aim) → List ℕ → Aim
aim_in found symbol = unwrap_or (found symbol) aims.Undefined
