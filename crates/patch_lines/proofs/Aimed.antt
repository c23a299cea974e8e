-- What a symbol may not be named by, from what it stands for.
use Rattle.std.proofs.Common.{◌≡◌, ℕ, Bool, true, false, cond, Option, Some, None, List, refl, sym, ap, ◌∙◌}
use Rattle.std.specs.Prelude.{ℤ, pos, find}
use Rattle.std.specs.Option.{option_map, option_map_or}
use Rattle.gt_model.specs.declared.intervals.Block.{Block}
use Rattle.gt_model.specs.declared.modules.Module.{Module}
use Rattle.gt_model.specs.declared.symbols.Payload.{Payload}
use Rattle.gt_model.specs.declared.symbols.Payload.TheVariants as payloads
use Rattle.gt_model.specs.declared.symbols.Symbol.{Symbol}
use Rattle.sym_expr.specs.declared.patches.PatchTable.{PatchTable}
use Rattle.sym_expr.specs.declared.target.Target.TheVariants.{Undefined}
use Rattle.sym_expr.specs.Expressions.{aim_of, is_bad_sum, symbol_aim}
use Rattle.sym_expr.specs.Modules.{block_of, blocks_of, is_code, loaded_intervals}
use Rattle.sym_expr.specs.Patches.{no_patches}
use Rattle.sym_expr.specs.Targets.{block_target, old_target, payload_target, symbol_target}
use Rattle.patch_lines.specs.Aims.{is_bad_block, is_bad_payload}
use Rattle.patch_lines.specs.Faults.{block_at}
use Rattle.patch_lines.specs.Naming.{use_at}

-- a target of a block, of which only its kind counts
block_case : (m : Module) (p : PatchTable) (word : ℕ) (offset at : ℤ) (b : Block) (code at_end : Bool) → code ≡ is_code b
    → is_bad_sum word offset (aim_of (loaded_intervals m) (block_target p at_end at b)) ≡ is_bad_block word offset (Some b)
block_case m p word offset at b true true is = rw (← is) refl
block_case m p word offset at b true false is = rw (← is) refl
block_case m p word offset at b false at_end is = rw (← is) refl

found_case : (m : Module) (p : PatchTable) (word : ℕ) (offset at : ℤ) (s : Symbol) (o : Option Block)
    → is_bad_sum word offset (aim_of (loaded_intervals m) (option_map_or (block_target p s.at_end at) o (Undefined s.uuid))) ≡ is_bad_block word offset o
found_case m p word offset at s None = refl
found_case m p word offset at s (Some b) = block_case m p word offset at b (is_code b) s.at_end refl

payload_case : (m : Module) (p : PatchTable) (word : ℕ) (offset at : ℤ) (s : Symbol) (payload : Payload)
    → is_bad_sum word offset (aim_of (loaded_intervals m) (payload_target p (blocks_of (loaded_intervals m)) s at payload)) ≡ is_bad_payload m word offset payload
payload_case m p word offset at s payloads.Nothing = refl
payload_case m p word offset at s (payloads.Value value) = refl
payload_case m p word offset at s (payloads.Referent id) = found_case m p word offset at s (block_at m id)

symbol_case : (m : Module) (p : PatchTable) (word : ℕ) (offset at : ℤ) (id : List ℕ) (o : Option Symbol)
    → is_bad_sum word offset (aim_of (loaded_intervals m) (option_map_or (λ s. symbol_target m p s at) o (Undefined id)))
    ≡ option_map_or (is_bad_payload m word offset) (option_map (λ (s : Symbol). s.payload) o) false
symbol_case m p word offset at id None = refl
symbol_case m p word offset at id (Some s) = payload_case m p word offset at s s.payload

-- by any patches, and whatever the offset of the target
pub old_case : (m : Module) (p : PatchTable) (word : ℕ) (offset at : ℤ) (id : List ℕ)
    → is_bad_sum word offset (aim_of (loaded_intervals m) (old_target m p id at)) ≡ option_map_or (is_bad_payload m word offset) (option_map (λ (s : Symbol). s.payload) (use_at m.symbols id)) false
old_case m p word offset at id = symbol_case m p word offset at id (use_at m.symbols id)

pub aim_case : (m : Module) (word : ℕ) (offset : ℤ) (id : List ℕ)
    → is_bad_sum word offset (symbol_aim m id) ≡ option_map_or (is_bad_payload m word offset) (option_map (λ (s : Symbol). s.payload) (use_at m.symbols id)) false
aim_case m word offset id = old_case m no_patches word offset (pos 0) id
