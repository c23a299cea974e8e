-- The blocks of a function, one line further.
use Rattle.std.proofs.Common.{◌≡◌, ℕ, ◌+◌, ◌*◌, Bool, true, false, ◌&&◌, List, [], ◌∷◌, ◌++◌, length, sym, ap, ◌∙◌, append_assoc, append-nil}
use Rattle.std.specs.Prelude.{if◌then◌else◌}
use Rattle.std.proofs.lemmas.List.{length-append}
use Rattle.gt_model.specs.declared.modules.Module.{Module}
use Rattle.module_program.specs.Building.{all_pieces, block_piece, is_begun, pieces_yet}
use Rattle.module_program.specs.declared.functions.Blocks.{Blocks}
use Rattle.sym_expr.specs.declared.patches.FunLine.{FunLine}
use Rattle.sym_expr.specs.declared.patches.FunLine.TheVariants as lines
use Rattle.sym_expr.specs.declared.patches.Function.{Function}
use Rattle.sym_expr.specs.declared.patches.PatchTable.{PatchTable}
use Rattle.sym_expr.specs.declared.patches.PatchWord.{PatchWord}
use Rattle.sym_expr.specs.declared.program.Piece.{Piece}
use Rattle.sym_expr.specs.declared.program.Word.{Word}
use Rattle.sym_expr.specs.Patches.{is_control}
use Rattle.sym_expr.specs.Program.{patched_word}

-- a word before which the block at hand ends
pub word_ends : (m : Module) (p : PatchTable) (f : Function) (whole : List Piece) (at : ℕ) (own : List Word) (w : PatchWord) (rest : List FunLine) (fresh : Bool) → (fresh && is_begun own) ≡ true
    → (whole ++ block_piece m f (length whole) at own ∷ []) ++ pieces_yet m p f (length (whole ++ block_piece m f (length whole) at own ∷ [])) (at + 4 * length own) (patched_word m p w ∷ []) (is_control w.word) rest
    ≡ whole ++ pieces_yet m p f (length whole) at own fresh (lines.Word w ∷ rest)
word_ends m p f whole at own w rest fresh h =
    let q : Piece = block_piece m f (length whole) at own in
    let next : ℕ → List Piece = λ k. pieces_yet m p f k (at + 4 * length own) (patched_word m p w ∷ []) (is_control w.word) rest in
    ap (λ k. (whole ++ q ∷ []) ++ next k) (length-append whole (q ∷ []))
    ∙ append_assoc whole (q ∷ []) (next (length whole + 1))
    ∙ ap (λ l. whole ++ l) (sym (ap (λ b. if b then q ∷ next (length whole + 1) else pieces_yet m p f (length whole) at (own ++ patched_word m p w ∷ []) (is_control w.word) rest) h))

-- a word that the block at hand takes
pub word_added : (m : Module) (p : PatchTable) (f : Function) (whole : List Piece) (at : ℕ) (own : List Word) (w : PatchWord) (rest : List FunLine) (fresh : Bool) → (fresh && is_begun own) ≡ false
    → whole ++ pieces_yet m p f (length whole) at (own ++ patched_word m p w ∷ []) (is_control w.word) rest ≡ whole ++ pieces_yet m p f (length whole) at own fresh (lines.Word w ∷ rest)
word_added m p f whole at own w rest fresh h =
    let q : Piece = block_piece m f (length whole) at own in
    ap (λ l. whole ++ l) (sym (ap (λ b. if b then q ∷ pieces_yet m p f (length whole + 1) (at + 4 * length own) (patched_word m p w ∷ []) (is_control w.word) rest else pieces_yet m p f (length whole) at (own ++ patched_word m p w ∷ []) (is_control w.word) rest) h))

-- behind all lines: the block at hand is whole, if it has words
pub none_left : (m : Module) (p : PatchTable) (f : Function) (b : Blocks) → is_begun b.own.items ≡ false → b.whole.items ≡ all_pieces m p f b []
none_left m p f b h = sym (ap (λ x. b.whole.items ++ (if x then block_piece m f (length b.whole.items) b.at b.own.items ∷ [] else [])) h ∙ append-nil b.whole.items)

pub one_left : (m : Module) (p : PatchTable) (f : Function) (b : Blocks) → is_begun b.own.items ≡ true → b.whole.items ++ block_piece m f (length b.whole.items) b.at b.own.items ∷ [] ≡ all_pieces m p f b []
one_left m p f b h = sym (ap (λ x. b.whole.items ++ (if x then block_piece m f (length b.whole.items) b.at b.own.items ∷ [] else [])) h)
