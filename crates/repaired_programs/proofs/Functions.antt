-- The interval of a function has the room of the function.
use Rattle.std.proofs.Common.{◌≡◌, ℕ, suc, ◌+◌, ◌-◌, ◌*◌, Bool, true, false, List, [], ◌∷◌, length, map, refl, sym, ap, ◌∙◌, arith}
use Rattle.std.specs.Prelude.{◌==◌}
use Rattle.std.specs.List.{flat_map}
use Rattle.std.proofs.lemmas.List.{length-map}
use Rattle.gt_model.specs.declared.intervals.Block.{Block}
use Rattle.gt_model.specs.declared.intervals.Body.TheVariants as bodies
use Rattle.gt_model.specs.declared.intervals.Interval.{Interval}
use Rattle.gt_model.specs.declared.modules.Module.{Module}
use Rattle.rewrite.specs.Functions.{blocks_from, function_interval}
use Rattle.sym_expr.specs.declared.patches.FunLine.{FunLine}
use Rattle.sym_expr.specs.declared.patches.FunLine.TheVariants as lines
use Rattle.sym_expr.specs.declared.patches.Function.{Function}
use Rattle.sym_expr.specs.declared.patches.PatchTable.{PatchTable}
use Rattle.sym_expr.specs.declared.patches.PatchWord.{PatchWord}
use Rattle.sym_expr.specs.declared.program.CodeBlock.{CodeBlock}
use Rattle.sym_expr.specs.declared.program.Piece.{Piece}
use Rattle.sym_expr.specs.Modules.{in_order}
use Rattle.sym_expr.specs.Patches.{add_word, begins, cut, function_blocks, is_control, no_patches, with_starts}
use Rattle.sym_expr.specs.Program.{function_pieces, patched_word, pieces}
use Rattle.sym_expr.specs.TableOk.{function_words, line_words}
use Rattle.sym_expr.specs.Tables.{Tables}
use Rattle.sym_expr.specs.Targets.{function_block_id}
use Rattle.repaired_programs.proofs.Becomes.{behind_turns}
use Rattle.repaired_programs.proofs.Sorted.{sorted}
use Rattle.repaired_programs.proofs.Spots.{Behind}
use Rattle.repaired_programs.proofs.Walks.{block_walk, bump, code_walk, last_gap, walk}

-- ---- the blocks have all words

abbrev pub block_words : List (List PatchWord) → ℕ
block_words [] = 0
block_words (b ∷ bs) = length b + block_words bs

added_words : (w : PatchWord) (x : Bool) (bs : List (List PatchWord)) → block_words (add_word w x bs) ≡ suc (block_words bs)
added_words w true bs = omega arith
added_words w false [] = omega arith
added_words w false (b ∷ bs) = omega arith

cut_words : (ws : List (Bool × PatchWord)) → block_words (cut ws) ≡ length ws
cut_words [] = refl
cut_words ((start, w) ∷ rest) = added_words w (begins rest) (cut rest) ∙ ap suc (cut_words rest)

started_words : (fresh : Bool) (ls : List FunLine) → length (with_starts fresh ls) ≡ length (flat_map line_words ls)
started_words fresh [] = refl
started_words fresh (lines.Label name ∷ rest) = started_words true rest
started_words fresh (lines.Word w ∷ rest) = ap suc (started_words (is_control w.word) rest)

pub all_words : (f : Function) → block_words (function_blocks f) ≡ length (function_words f)
all_words f = cut_words (with_starts true f.body) ∙ started_words true f.body

-- ---- the blocks are in order

blocks_behind : (m : Module) (f : Function) (k at : ℕ) (bs : List (List PatchWord)) → Behind at (blocks_from m f k at bs)
blocks_behind m f k at [] = tt
blocks_behind m f k at (b ∷ bs) = (omega arith, blocks_behind m f (suc k) (at + 4 * length b) bs)

pub function_order : (m : Module) (f : Function) → in_order (function_interval m f).blocks ≡ (function_interval m f).blocks
function_order m f = sorted (function_interval m f).blocks (behind_turns 0 (function_interval m f).blocks (blocks_behind m f 0 0 (function_blocks f)))

-- ---- they need the room of the pieces

function_walk : (n : Module) (u : Tables) (j : Interval) (m : Module) (p : PatchTable) (f : Function) (k at : ℕ) (bs : List (List PatchWord)) → j.size ≡ at + 4 * block_words bs
    → walk at (pieces n u no_patches j at (blocks_from m f k at bs)) ≡ walk at (function_pieces m p f k at bs)
function_walk n u j m p f k at [] e =
    let same : at + (j.size - at) ≡ at = omega (arith, e) in
    last_gap j at j.size at (j.size - at == 0) refl ∙ ap (λ x. walk x []) same
function_walk n u j m p f k at (b ∷ bs) e =
    let next : ℕ = at + 4 * length b in
    let c : Block = record { offset = at; body = bodies.Code (function_block_id m f k) (4 * length b) 0 } in
    let q : CodeBlock = record { id = function_block_id m f k; offset = at; own = map (patched_word m p) b; inserted = [] } in
    let rest : List Piece = function_pieces m p f (suc k) next bs in
    let own = length-map b (patched_word m p) in
    let size : at + 4 * (length (map (patched_word m p) b) + 0) ≡ next = omega (arith, own) in
    block_walk n u j at next c (length b) (blocks_from m f (suc k) next bs) refl refl (omega arith) refl
    ∙ ap (bump 4) (function_walk n u j m p f (suc k) next bs (omega (arith, e)))
    ∙ ap (λ x. bump 4 (walk x rest)) (sym size)
    ∙ sym (code_walk at q rest)

pub whole_walk : (n : Module) (u : Tables) (m : Module) (p : PatchTable) (f : Function)
    → walk 0 (pieces n u no_patches (function_interval m f) 0 (in_order (function_interval m f).blocks)) ≡ walk 0 (function_pieces m p f 0 0 (function_blocks f))
whole_walk n u m p f =
    let words = all_words f in
    ap (λ bs. walk 0 (pieces n u no_patches (function_interval m f) 0 bs)) (function_order m f)
    ∙ function_walk n u (function_interval m f) m p f 0 0 (function_blocks f) (omega (arith, words))
