-- The blocks of a function, cut line by line.
use Rattle.std.specs.Prelude.{ℕ, ◌+◌, ◌*◌, Bool, true, ◌&&◌, ◌==◌, not, if◌then◌else◌, List, [], ◌∷◌, ◌++◌, length}
use Rattle.gt_model.specs.declared.intervals.Block.{Block}
use Rattle.gt_model.specs.declared.intervals.Body.TheVariants as bodies
use Rattle.gt_model.specs.declared.modules.Module.{Module}
use Rattle.new_intervals.specs.declared.cutting.Blocks.{Blocks}
use Rattle.sym_expr.specs.declared.patches.FunLine.{FunLine}
use Rattle.sym_expr.specs.declared.patches.FunLine.TheVariants as lines
use Rattle.sym_expr.specs.declared.patches.Function.{Function}
use Rattle.sym_expr.specs.Patches.{is_control}
use Rattle.sym_expr.specs.Targets.{function_block_id}

-- the k-th block of a function, which stands at an offset and has so many words
abbrev pub block_from : Module → Function → ℕ → ℕ → ℕ → Block
block_from m f k at words = record { offset = at; body = bodies.Code (function_block_id m f k) (4 * words) 0 }

-- the blocks that come yet: the k-th has so many words so far, and these lines follow
abbrev pub blocks_yet : Module → Function → ℕ → ℕ → ℕ → Bool → List FunLine → List Block
blocks_yet m f k at words fresh [] = if words == 0 then [] else block_from m f k at words ∷ []
blocks_yet m f k at words fresh (lines.Label name ∷ rest) = blocks_yet m f k at words true rest
blocks_yet m f k at words fresh (lines.Word w ∷ rest) =
    if fresh && not (words == 0)
    then block_from m f k at words ∷ blocks_yet m f (k + 1) (at + 4 * words) 1 (is_control w.word) rest
    else blocks_yet m f k at (words + 1) (is_control w.word) rest

-- all blocks of a function: those so far, and those that come of these lines
abbrev pub all_blocks : Module → Function → Blocks → List FunLine → List Block
all_blocks m f b rest = b.whole.items ++ blocks_yet m f (length b.whole.items) b.at b.words b.fresh rest
