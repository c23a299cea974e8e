-- The blocks of a function as pieces, built word by word.
use Rattle.std.specs.Prelude.{ℕ, suc, ◌+◌, ◌*◌, Bool, true, false, ◌&&◌, not, if◌then◌else◌, List, [], ◌∷◌, ◌++◌, length}
use Rattle.gt_model.specs.declared.modules.Module.{Module}
use Rattle.module_program.specs.declared.functions.Blocks.{Blocks}
use Rattle.sym_expr.specs.declared.patches.FunLine.{FunLine}
use Rattle.sym_expr.specs.declared.patches.FunLine.TheVariants as lines
use Rattle.sym_expr.specs.declared.patches.Function.{Function}
use Rattle.sym_expr.specs.declared.patches.PatchTable.{PatchTable}
use Rattle.sym_expr.specs.declared.patches.PatchWord.{PatchWord}
use Rattle.sym_expr.specs.declared.program.Piece.{Piece}
use Rattle.sym_expr.specs.declared.program.Piece.TheVariants.{Code as CodePiece}
use Rattle.sym_expr.specs.declared.program.Word.{Word}
use Rattle.sym_expr.specs.Patches.{is_control}
use Rattle.sym_expr.specs.Program.{patched_word}
use Rattle.sym_expr.specs.Targets.{function_block_id}

-- the k-th block of a function, which stands at an offset and has these words
abbrev pub block_piece : Module → Function → ℕ → ℕ → List Word → Piece
block_piece m f k at own = CodePiece (record { id = function_block_id m f k; offset = at; own = own; inserted = [] })

abbrev pub is_begun : List Word → Bool
is_begun [] = false
is_begun (w ∷ ws) = true

-- the pieces that come yet: the k-th block has these words so far, and these lines follow
abbrev pub pieces_yet : Module → PatchTable → Function → ℕ → ℕ → List Word → Bool → List FunLine → List Piece
pieces_yet m p f k at own fresh [] = if is_begun own then block_piece m f k at own ∷ [] else []
pieces_yet m p f k at own fresh (lines.Label name ∷ rest) = pieces_yet m p f k at own true rest
pieces_yet m p f k at own fresh (lines.Word w ∷ rest) =
    if fresh && is_begun own
    then block_piece m f k at own ∷ pieces_yet m p f (k + 1) (at + 4 * length own) (patched_word m p w ∷ []) (is_control w.word) rest
    else pieces_yet m p f k at (own ++ patched_word m p w ∷ []) (is_control w.word) rest

-- all pieces of a function: those so far, and those that come of these lines
abbrev pub all_pieces : Module → PatchTable → Function → Blocks → List FunLine → List Piece
all_pieces m p f b rest = b.whole.items ++ pieces_yet m p f (length b.whole.items) b.at b.own.items b.fresh rest

-- the same where the block at hand takes a word, and these lines follow
abbrev pub with_word : Module → PatchTable → Function → Blocks → PatchWord → List FunLine → List Piece
with_word m p f b w rest = b.whole.items ++ pieces_yet m p f (length b.whole.items) b.at (b.own.items ++ patched_word m p w ∷ []) (is_control w.word) rest
