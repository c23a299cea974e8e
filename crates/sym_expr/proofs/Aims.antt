-- What a word of patches names is there, where all that symbols and functions stand for is.
use Rattle.std.proofs.Common.{◌≡◌, ◌≢◌, ℕ, ◌-◌, ◌*◌, ◌<◌, ℤ, false, List, [], ◌∷◌, length, get_or, Option, Some, None, refl, arith}
use Rattle.std.specs.Prelude.{IfSome, MatchOption, IsSome}
use Rattle.std.specs.List.{AllByRecursion as Every}
use Rattle.std.specs.Option.{option_map}
use Rattle.a64_inst.specs.Kinds.{operand_kind}
use Rattle.gt_model.specs.declared.modules.Module.{Module}
use Rattle.sym_expr.specs.declared.patches.Function.{Function}
use Rattle.sym_expr.specs.declared.patches.PatchTable.{PatchTable}
use Rattle.sym_expr.specs.declared.patches.PatchTarget.{PatchTarget}
use Rattle.sym_expr.specs.declared.patches.PatchWord.{PatchWord}
use Rattle.sym_expr.specs.declared.patches.SymbolName.{SymbolName}
use Rattle.sym_expr.specs.declared.patches.SymbolName.TheVariants as names
use Rattle.sym_expr.specs.declared.point.Point.{Point}
use Rattle.sym_expr.specs.declared.program.CodeBlock.{CodeBlock}
use Rattle.sym_expr.specs.declared.program.Program.{Program}
use Rattle.sym_expr.specs.Patches.{FunPlace, Start, End, function_blocks, name_in}
use Rattle.sym_expr.specs.Points.{code_at, code_size}
use Rattle.sym_expr.specs.Program.{patched_word}
use Rattle.sym_expr.specs.TableOk.{IsTarget, is_aimed, function_words}
use Rattle.sym_expr.specs.TableOk as patches
use Rattle.sym_expr.specs.Targets.{first_target, function_block_id, name_target, old_target, patch_target, place_point, points_of_name}
use Rattle.sym_expr.specs.WellMade.{IsPoint, IsThere, IsWord}
use Rattle.sym_expr.proofs.Functions.{IsWithin, has_block, name_within}
use Rattle.sym_expr.proofs.Lists.{every_filter_map, every_weaker}

-- the k-th block of a function is a block of the program, of its size
pub record IsKnownBlock (g : Program) (m : Module) (f : Function) (k : ℕ) : Type 0 where
  pub block : CodeBlock
  pub found : code_at g (function_block_id m f k) ≡ Some block
  pub size : code_size block ≡ 4 * length (get_or (function_blocks f) k [])

abbrev pub IsKnownFunction : Program → Module → Function → Type 0
IsKnownFunction g m f = (function_words f ≢ []) × ((k : ℕ) → k < length (function_blocks f) → IsKnownBlock g m f k)

place_there : (g : Program) (m : Module) (f : Function) (place : FunPlace) → IsKnownFunction g m f → IsWithin (length (function_blocks f)) place → IsPoint g (place_point m f place)
place_there g m f (Start k) h within =
    let known = h.1 k within in
    record { block = known.block; found = known.found; whole = refl; inside = omega arith; passed = omega arith }
place_there g m f End h within =
    let last : ℕ = length (function_blocks f) - 1 in
    let some = has_block f h.0 in
    let known = h.1 last (omega (arith, some)) in
    record {
      block = known.block;
      found = known.found;
      whole = omega arith;
      inside = let size = known.size in omega (arith, size);
      passed = omega arith;
    }

name_there : (g : Program) (m : Module) (q : List ℕ) (f : Function) → IsKnownFunction g m f → IfSome (option_map (place_point m f) (name_in q f)) (IsPoint g)
name_there g m q f h = at (name_in q f) (name_within q f h.0)
  where
    at : (o : Option FunPlace) → IfSome o (IsWithin (length (function_blocks f))) → IfSome (option_map (place_point m f) o) (IsPoint g)
    at None k = tt
    at (Some place) k = place_there g m f place h k

first_there : (g : Program) (points : List Point) → Every (IsPoint g) points → IsThere g (first_target points)
first_there g [] h = tt
first_there g (at ∷ rest) h = h.0

abbrev pub AllThere : Program → Module → PatchTable → Type 0
AllThere g m p = (id : List ℕ) (offset : ℤ) → IsThere g (old_target m p id offset)

target_there : (g : Program) (m : Module) (p : PatchTable) → AllThere g m p → Every (IsKnownFunction g m) p.functions → (s : SymbolName) (offset : ℤ) → IsThere g (name_target m p s offset)
target_there g m p old known (names.Old id) offset = old id offset
target_there g m p old known (names.New q) offset =
    first_there g (points_of_name m p q)
    (every_filter_map (λ (f : Function). option_map (place_point m f) (name_in q f)) (IsPoint g) p.functions
    (every_weaker (IsKnownFunction g m) (λ f. IfSome (option_map (place_point m f) (name_in q f)) (IsPoint g)) (λ f h. name_there g m q f h) p.functions known))

pub word_there : (g : Program) (m : Module) (p : PatchTable) → AllThere g m p → Every (IsKnownFunction g m) p.functions → (w : PatchWord) → patches.IsWord m p w → IsWord g (patched_word m p w)
word_there g m p old known w h = at w.target h
  where
    at : (o : Option PatchTarget) → MatchOption o (is_aimed w.word ≡ false) (IsTarget m p w.word) → IfSome (option_map (patch_target m p) o) (λ t. IsSome (operand_kind w.word) × IsThere g t)
    at None k = tt
    at (Some t) k = (k.operand, target_there g m p old known t.symbol t.offset)
