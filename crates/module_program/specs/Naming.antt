-- What a symbol names before an offset is added, by how many words stand at a spot and by how blocks are found.
use Rattle.std.specs.Prelude.{ℕ, ℤ, Bool, nat_eq, ◌&&◌, if◌then◌else◌, List, length, Option, find, unwrap_or}
use Rattle.std.specs.Option.{option_map_or}
use Rattle.std.specs.Str.{bytes_eq}
use Rattle.std.specs.declared.hash.FoldHasher.{FoldHasher}
use Rattle.std.specs.declared.hash.BuildHasherDefault.{BuildHasherDefault}
use Rattle.indexmap.specs.IndexMap.{IndexMap, get}
use Rattle.gt_model.specs.declared.intervals.Block.{Block}
use Rattle.gt_model.specs.declared.modules.Module.{Module}
use Rattle.gt_model.specs.declared.symbols.Payload.{Payload}
use Rattle.gt_model.specs.declared.symbols.Payload.TheVariants as payloads
use Rattle.gt_model.specs.declared.symbols.Symbol.{Symbol}
use Rattle.sym_expr.specs.declared.patches.PatchTable.{PatchTable}
use Rattle.sym_expr.specs.declared.target.Target.{Target}
use Rattle.sym_expr.specs.declared.target.Target.TheVariants.{Number, Address, Code, Undefined}
use Rattle.sym_expr.specs.Modules.{is_code, id_of, size_of, block_of, blocks_of, loaded_intervals}
use Rattle.sym_expr.specs.Patches.{inserted_in, inserted_at}
use Rattle.sym_expr.specs.Targets.{plus_offset, point, start_of}

-- a target, and an offset from it, which is not looked at where the target is code
abbrev pub shifted : ℤ → Target → Target
shifted offset (Number n) = Number (plus_offset n offset)
shifted offset (Address block at) = Address block (plus_offset at offset)
shifted offset (Code at) = Code at
shifted offset (Undefined symbol) = Undefined symbol

-- the start or the end of a block, by how many words stand at an offset of a block
abbrev pub block_base : (List ℕ → ℕ → ℕ) → Bool → Block → Target
block_base count at_end b =
    if is_code b then Code (if at_end then point (id_of b) (size_of b) (count (id_of b) (size_of b)) else start_of (id_of b))
    else Address (id_of b) (if at_end then size_of b else 0)

-- what a symbol names by its payload, by how blocks are found
abbrev pub payload_base : (List ℕ → ℕ → ℕ) → (List ℕ → Option Block) → Symbol → Payload → Target
payload_base count found s payloads.Nothing = Undefined s.uuid
payload_base count found s (payloads.Value value) = Number value
payload_base count found s (payloads.Referent id) = option_map_or (block_base count s.at_end) (found id) (Undefined s.uuid)

abbrev pub symbol_base : (List ℕ → ℕ → ℕ) → (List ℕ → Option Block) → Symbol → Target
symbol_base count found s = payload_base count found s s.payload

-- how many words the patches insert at an offset of a block
abbrev pub count_at : PatchTable → List ℕ → ℕ → ℕ
count_at p block offset = length (inserted_at offset (inserted_in p block))

-- the loaded block of an identifier
abbrev pub loaded_block : Module → List ℕ → Option Block
loaded_block m id = block_of id (blocks_of (loaded_intervals m))

abbrev pub base_of : Module → PatchTable → Symbol → Target
base_of m p s = symbol_base (count_at p) (loaded_block m) s

-- the symbol of an identifier
abbrev pub symbol_of : List ℕ → List Symbol → Option Symbol
symbol_of id symbols = find (λ (s : Symbol). bytes_eq s.uuid id) symbols

-- counts by block and offset, 0 where there is none
abbrev pub Counts : Type 0
Counts = IndexMap (List ℕ × ℕ) ℕ (BuildHasherDefault FoldHasher)

abbrev pub spot_eq : List ℕ × ℕ → List ℕ × ℕ → Bool
spot_eq a b = bytes_eq a.0 b.0 && nat_eq a.1 b.1

abbrev pub count_in : Counts → List ℕ → ℕ → ℕ
count_in counts block offset = unwrap_or (get spot_eq counts (block, offset)) 0
