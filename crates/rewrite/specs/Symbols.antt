-- The symbols of a rewritten module.
use Rattle.std.specs.Prelude.{ℕ, ◌-◌, Bool, true, false, if◌then◌else◌, List, ◌∷◌, ◌++◌, length, map}
use Rattle.std.specs.List.{flat_map, filter_map}
use Rattle.std.specs.Option.{option_map, option_map_or}
use Rattle.block_parts.specs.Parts.{parts}
use Rattle.gt_model.specs.declared.modules.Module.{Module}
use Rattle.gt_model.specs.declared.symbols.Payload.{Payload}
use Rattle.gt_model.specs.declared.symbols.Payload.TheVariants as payloads
use Rattle.gt_model.specs.declared.symbols.Symbol.{Symbol}
use Rattle.rewrite.specs.Identifiers.{part_id, last_part, new_symbol_id}
use Rattle.sym_expr.specs.declared.patches.Function.{Function}
use Rattle.sym_expr.specs.declared.patches.PatchTable.{PatchTable}
use Rattle.sym_expr.specs.declared.program.CodeBlock.{CodeBlock}
use Rattle.sym_expr.specs.declared.program.Program.{Program}
use Rattle.sym_expr.specs.Patches.{FunPlace, Start, End, name_in, function_blocks}
use Rattle.sym_expr.specs.Points.{code_at}
use Rattle.sym_expr.specs.TableOk.{line_labels}
use Rattle.sym_expr.specs.Targets.{function_block_id}

-- the last part of a block
abbrev pub last_id : Module → CodeBlock → List ℕ
last_id m b = part_id m b.id (last_part (parts b))

-- what has the end of a block: of a code block its last part
abbrev pub end_holder : Module → Program → List ℕ → List ℕ
end_holder m g id = option_map_or (last_id m) (code_at g id) id

abbrev pub end_payload : Module → Program → Payload → Payload
end_payload m g payloads.Nothing = payloads.Nothing
end_payload m g (payloads.Value value) = payloads.Value value
end_payload m g (payloads.Referent id) = payloads.Referent (end_holder m g id)

-- a symbol at the start of a block stays on the first part, one at the end goes to the last
abbrev pub moved_symbol : Module → Program → Symbol → Symbol
moved_symbol m g s = if s.at_end then record s { payload = end_payload m g s.payload } else s

-- a place in a function: whether it is the end of its block, and that block
abbrev pub is_end : FunPlace → Bool
is_end (Start k) = false
is_end End = true

abbrev pub holder : Module → Function → FunPlace → List ℕ
holder m f (Start k) = function_block_id m f k
holder m f End = function_block_id m f (length (function_blocks f) - 1)

-- the symbol of a name of a function
abbrev pub name_symbol : Module → Function → List ℕ → FunPlace → Symbol
name_symbol m f name place = record { uuid = new_symbol_id m name; name = name; at_end = is_end place; payload = payloads.Referent (holder m f place) }

-- the names of a function: its own, and its labels in order
abbrev pub names_of : Function → List (List ℕ)
names_of f = f.name ∷ flat_map line_labels f.body

abbrev pub function_symbols : Module → Function → List Symbol
function_symbols m f = filter_map (λ name. option_map (name_symbol m f name) (name_in name f)) (names_of f)

-- the old ones, and behind them those of the functions
abbrev pub new_symbols : Module → Program → PatchTable → List Symbol
new_symbols m g p = map (moved_symbol m g) m.symbols ++ flat_map (function_symbols m) p.functions
