-- What a symbol of a module names is there in its program.
use Rattle.std.proofs.Common.{◌≡◌, ℕ, ◌%◌, ◌≤◌, ℤ, Bool, true, false, List, length, Option, Some, None, refl, arith}
use Rattle.std.specs.Prelude.{find, IsSome, if◌then◌else◌}
use Rattle.std.specs.List.{AllByRecursion as Every}
use Rattle.std.specs.Option.{option_map_or}
use Rattle.std.specs.Str.{bytes_eq}
use Rattle.gt_model.specs.declared.intervals.Block.{Block}
use Rattle.gt_model.specs.declared.modules.Module.{Module}
use Rattle.gt_model.specs.declared.symbols.Payload.{Payload}
use Rattle.gt_model.specs.declared.symbols.Payload.TheVariants as payloads
use Rattle.gt_model.specs.declared.symbols.Symbol.{Symbol}
use Rattle.sym_expr.specs.declared.program.CodeBlock.{CodeBlock}
use Rattle.sym_expr.specs.declared.program.Program.{Program}
use Rattle.sym_expr.specs.declared.target.Target.TheVariants.{Address, Code, Undefined}
use Rattle.sym_expr.specs.Modules.{is_code, id_of, size_of, blocks_of, block_of, has_id, loaded_intervals}
use Rattle.sym_expr.specs.declared.patches.PatchTable.{PatchTable}
use Rattle.sym_expr.specs.Patches.{inserted_in, inserted_at}
use Rattle.sym_expr.specs.Points.{code_at, data_at, code_size, ins}
use Rattle.sym_expr.specs.Targets.{start_of, end_point, plus_offset, block_target, payload_target, symbol_target, old_target}
use Rattle.sym_expr.specs.WellMade.{IsPoint, IsThere}
use Rattle.sym_expr.proofs.Lists.{found_one}

-- a block of code is a code block of the program, of its size, and its ends are whole words from its start
pub record IsKnownCode (g : Program) (p : PatchTable) (b : Block) : Type 0 where
  pub block : CodeBlock
  pub found : code_at g (id_of b) ≡ Some block
  pub size : code_size block ≡ size_of b
  pub whole : size_of b % 4 ≡ 0
  pub passed : length (inserted_at (size_of b) (inserted_in p (id_of b))) ≤ length (ins block (size_of b))

-- a block of the module is a block of the program of its kind
pub record IsKnown (g : Program) (p : PatchTable) (b : Block) : Type 0 where
  pub code : is_code b ≡ true → IsKnownCode g p b
  pub other : is_code b ≡ false → IsSome (data_at g (id_of b))

pub start_there : (g : Program) (p : PatchTable) (b : Block) → IsKnownCode g p b → IsPoint g (start_of (id_of b))
start_there g p b h = record {
  block = h.block;
  found = h.found;
  whole = refl;
  inside = omega arith;
  passed = omega arith;
}

end_there : (g : Program) (p : PatchTable) (b : Block) → IsKnownCode g p b → IsPoint g (end_point p (id_of b) (size_of b))
end_there g p b h = record {
  block = h.block;
  found = h.found;
  whole = h.whole;
  inside = let size = h.size in omega (arith, size);
  passed = h.passed;
}

edge_there : (g : Program) (p : PatchTable) (b : Block) (at_end : Bool) → IsKnownCode g p b → IsPoint g (if at_end then end_point p (id_of b) (size_of b) else start_of (id_of b))
edge_there g p b true h = end_there g p b h
edge_there g p b false h = start_there g p b h

block_there : (g : Program) (p : PatchTable) (at_end : Bool) (offset : ℤ) (b : Block) (x : Bool) → (x ≡ true → IsKnownCode g p b) → (x ≡ false → IsSome (data_at g (id_of b)))
    → IsThere g (if x then Code (if at_end then end_point p (id_of b) (size_of b) else start_of (id_of b)) else Address (id_of b) (plus_offset (if at_end then size_of b else 0) offset))
block_there g p at_end offset b true h k = edge_there g p b at_end (h refl)
block_there g p at_end offset b false h k = k refl

found_there : (g : Program) (p : PatchTable) (s : Symbol) (offset : ℤ) (o : Option Block) → ((b : Block) → o ≡ Some b → IsKnown g p b) → IsThere g (option_map_or (block_target p s.at_end offset) o (Undefined s.uuid))
found_there g p s offset None h = tt
found_there g p s offset (Some b) h =
    let known = h b refl in
    block_there g p s.at_end offset b (is_code b) known.code known.other

payload_there : (g : Program) (p : PatchTable) (blocks : List Block) (s : Symbol) (offset : ℤ) (v : Payload) → Every (IsKnown g p) blocks → IsThere g (payload_target p blocks s offset v)
payload_there g p blocks s offset payloads.Nothing h = tt
payload_there g p blocks s offset (payloads.Value n) h = tt
payload_there g p blocks s offset (payloads.Referent id) h = found_there g p s offset (block_of id blocks) (λ b e. (found_one (has_id id) (IsKnown g p) blocks b h e).1)

named_there : (g : Program) (p : PatchTable) (m : Module) (id : List ℕ) (offset : ℤ) (o : Option Symbol) → Every (IsKnown g p) (blocks_of (loaded_intervals m)) → IsThere g (option_map_or (λ s. symbol_target m p s offset) o (Undefined id))
named_there g p m id offset None h = tt
named_there g p m id offset (Some s) h = payload_there g p (blocks_of (loaded_intervals m)) s offset s.payload h

pub there : (g : Program) (p : PatchTable) (m : Module) → Every (IsKnown g p) (blocks_of (loaded_intervals m)) → (id : List ℕ) (offset : ℤ) → IsThere g (old_target m p id offset)
there g p m h id offset = named_there g p m id offset (find (λ (s : Symbol). bytes_eq s.uuid id) m.symbols) h
