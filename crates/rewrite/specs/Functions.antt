-- The interval of a function that patches bring.
use Rattle.std.specs.Prelude.{ℕ, suc, ◌+◌, ◌*◌, false, List, [], ◌∷◌, ◌++◌, length}
use Rattle.std.specs.List.{flat_map}
use Rattle.std.specs.Option.{option_to_list}
use Rattle.gt_model.specs.declared.exprs.Expr.{Expr}
use Rattle.gt_model.specs.declared.intervals.Block.{Block}
use Rattle.gt_model.specs.declared.intervals.Body.TheVariants as bodies
use Rattle.gt_model.specs.declared.intervals.Interval.{Interval}
use Rattle.gt_model.specs.declared.modules.Module.{Module}
use Rattle.rewrite.specs.Exprs.{patch_expr}
use Rattle.sym_expr.specs.declared.patches.Function.{Function}
use Rattle.sym_expr.specs.declared.patches.PatchWord.{PatchWord}
use Rattle.sym_expr.specs.Derived.{derived, interval_text}
use Rattle.sym_expr.specs.Images.{bytes_of}
use Rattle.sym_expr.specs.Patches.{function_blocks}
use Rattle.sym_expr.specs.TableOk.{function_words}
use Rattle.sym_expr.specs.Targets.{function_block_id}

-- the blocks of a function from the k-th on, which stands at an offset
abbrev pub blocks_from : Module → Function → ℕ → ℕ → List (List PatchWord) → List Block
blocks_from m f k at [] = []
blocks_from m f k at (words ∷ rest) =
    record { offset = at; body = bodies.Code (function_block_id m f k) (4 * length words) 0 } ∷ blocks_from m f (suc k) (at + 4 * length words) rest

-- what words of a function bring that stand one behind the other from an offset on
abbrev pub exprs_from : Module → ℕ → List PatchWord → List Expr
exprs_from m at [] = []
exprs_from m at (w ∷ ws) = option_to_list (patch_expr m at w) ++ exprs_from m (at + 4) ws

abbrev pub function_interval : Module → Function → Interval
function_interval m f = record {
  uuid = derived m.uuid (interval_text f.name);
  blocks = blocks_from m f 0 0 (function_blocks f);
  exprs = exprs_from m 0 (function_words f);
  has_address = false;
  address = 0;
  size = 4 * length (function_words f);
  contents = flat_map (λ (w : PatchWord). bytes_of 4 w.word) (function_words f);
}
