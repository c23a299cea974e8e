-- Targets: what a symbol plus an offset names.
use Rattle.std.specs.Prelude.{ℕ, ◌-◌, ◌*◌, ◌^◌, ℤ, pos, ◌+ℤ◌, unsigned_abs, Bool, if◌then◌else◌, List, [], ◌∷◌, length, find, Option, slice_index_or}
use Rattle.std.specs.Int.{int_rem_euclid}
use Rattle.std.specs.Option.{option_map, option_map_or}
use Rattle.std.specs.List.{filter_map}
use Rattle.std.specs.Str.{bytes_eq}
use Rattle.gt_model.specs.declared.intervals.Block.{Block}
use Rattle.gt_model.specs.declared.modules.Module.{Module}
use Rattle.gt_model.specs.declared.symbols.Payload.{Payload}
use Rattle.gt_model.specs.declared.symbols.Payload.TheVariants as payloads
use Rattle.gt_model.specs.declared.symbols.Symbol.{Symbol}
use Rattle.sym_expr.specs.declared.patches.Function.{Function}
use Rattle.sym_expr.specs.declared.patches.PatchTable.{PatchTable}
use Rattle.sym_expr.specs.declared.patches.PatchTarget.{PatchTarget}
use Rattle.sym_expr.specs.declared.patches.PatchWord.{PatchWord}
use Rattle.sym_expr.specs.declared.patches.SymbolName.{SymbolName}
use Rattle.sym_expr.specs.declared.patches.SymbolName.TheVariants as names
use Rattle.sym_expr.specs.declared.point.Point.{Point}
use Rattle.sym_expr.specs.declared.target.Target.{Target}
use Rattle.sym_expr.specs.declared.target.Target.TheVariants.{Number, Address, Code, Undefined}
use Rattle.sym_expr.specs.Derived.{derived, block_text}
use Rattle.sym_expr.specs.Modules.{is_code, id_of, size_of, block_of, blocks_of, loaded_intervals}
use Rattle.sym_expr.specs.Patches.{inserted_in, inserted_at, function_blocks, FunPlace, Start, End, name_in}

-- a number plus an offset, modulo 2 ^ 64
abbrev pub plus_offset : ℕ → ℤ → ℕ
plus_offset n offset = unsigned_abs (int_rem_euclid (pos n +ℤ offset) (pos (2 ^ 64)))

abbrev pub point : List ℕ → ℕ → ℕ → Point
point block offset j = record { block = block; offset = offset; j = j }

-- the start of a code block, before what is inserted there, and its end, behind what is inserted there
abbrev pub start_of : List ℕ → Point
start_of block = point block 0 0

abbrev pub end_point : PatchTable → List ℕ → ℕ → Point
end_point p block size = point block size (length (inserted_at size (inserted_in p block)))

-- what a symbol on a block names; an offset from code is not looked at
abbrev pub block_target : PatchTable → Bool → ℤ → Block → Target
block_target p at_end offset b =
    if is_code b then Code (if at_end then end_point p (id_of b) (size_of b) else start_of (id_of b))
    else Address (id_of b) (plus_offset (if at_end then size_of b else 0) offset)

-- what a symbol names by its payload, among these blocks
abbrev pub payload_target : PatchTable → List Block → Symbol → ℤ → Payload → Target
payload_target p blocks s offset payloads.Nothing = Undefined s.uuid
payload_target p blocks s offset (payloads.Value value) = Number (plus_offset value offset)
payload_target p blocks s offset (payloads.Referent id) = option_map_or (block_target p s.at_end offset) (block_of id blocks) (Undefined s.uuid)

-- what a symbol of the module plus an offset names: only blocks of loaded sections count
abbrev pub symbol_target : Module → PatchTable → Symbol → ℤ → Target
symbol_target m p s offset = payload_target p (blocks_of (loaded_intervals m)) s offset s.payload

abbrev pub old_target : Module → PatchTable → List ℕ → ℤ → Target
old_target m p id offset = option_map_or (λ s. symbol_target m p s offset) (find (λ (s : Symbol). bytes_eq s.uuid id) m.symbols) (Undefined id)

-- the identifier of a block of a function
abbrev pub function_block_id : Module → Function → ℕ → List ℕ
function_block_id m f k = derived m.uuid (block_text f.name k)

-- the point of a place in a function
abbrev pub place_point : Module → Function → FunPlace → Point
place_point m f (Start k) = start_of (function_block_id m f k)
place_point m f End =
    let last = length (function_blocks f) - 1 in
    point (function_block_id m f last) (4 * length (slice_index_or (function_blocks f) last [])) 0

-- the points that the functions give a name
abbrev pub points_of_name : Module → PatchTable → List ℕ → List Point
points_of_name m p name = filter_map (λ (f : Function). option_map (place_point m f) (name_in name f)) p.functions

-- the first of them
abbrev pub first_target : List Point → Target
first_target [] = Undefined []
first_target (at ∷ rest) = Code at

-- what a symbol of the module, or a name of the patches, plus an offset names
abbrev pub name_target : Module → PatchTable → SymbolName → ℤ → Target
name_target m p (names.Old id) offset = old_target m p id offset
name_target m p (names.New name) offset = first_target (points_of_name m p name)

abbrev pub patch_target : Module → PatchTable → PatchTarget → Target
patch_target m p t = name_target m p t.symbol t.offset

-- what the operand of a word of the patches names
abbrev pub word_target : Module → PatchTable → PatchWord → Option Target
word_target m p w = option_map (patch_target m p) w.target
