-- A function cut line by line is cut as by its words.
use Rattle.std.proofs.Common.{◌≡◌, ℕ, suc, ◌+◌, ◌*◌, Bool, true, false, List, [], ◌∷◌, ◌++◌, length, refl, sym, ap, ◌∙◌, append_assoc, add-one, arith}
use Rattle.std.specs.Prelude.{◌==◌, not, if◌then◌else◌}
use Rattle.std.proofs.lemmas.Bool.{ne_eqb}
use Rattle.std.proofs.lemmas.List.{length-append}
use Rattle.gt_model.specs.declared.modules.Module.{Module}
use Rattle.new_intervals.specs.Cutting.{block_from, blocks_yet}
use Rattle.rewrite.specs.Functions.{blocks_from}
use Rattle.sym_expr.specs.declared.patches.FunLine.{FunLine}
use Rattle.sym_expr.specs.declared.patches.FunLine.TheVariants as lines
use Rattle.sym_expr.specs.declared.patches.Function.{Function}
use Rattle.sym_expr.specs.declared.patches.PatchWord.{PatchWord}
use Rattle.sym_expr.specs.Patches.{is_control, with_starts, begins, add_word, cut, function_blocks}

-- words before the blocks that follow: in a block of their own, or in the first of them
abbrev join : List PatchWord → Bool → List (List PatchWord) → List (List PatchWord)
join pend true blocks = pend ∷ blocks
join pend false [] = pend ∷ []
join pend false (b ∷ bs) = (pend ++ b) ∷ bs

one_joined : (w : PatchWord) (x : Bool) (bs : List (List PatchWord)) → join (w ∷ []) x bs ≡ add_word w x bs
one_joined w true bs = refl
one_joined w false [] = refl
one_joined w false (b ∷ bs) = refl

join_more : (pend : List PatchWord) (w : PatchWord) (x : Bool) (bs : List (List PatchWord)) → join (pend ++ w ∷ []) x bs ≡ join pend false (add_word w x bs)
join_more pend w true bs = refl
join_more pend w false [] = refl
join_more pend w false (b ∷ bs) = ap (λ l. l ∷ bs) (append_assoc pend (w ∷ []) b)

-- the blocks of a word or more, and of the lines behind them
abbrev blocks_with : List PatchWord → Bool → List FunLine → List (List PatchWord)
blocks_with pend fresh ls = join pend (begins (with_starts fresh ls)) (cut (with_starts fresh ls))

some : (n : ℕ) → (suc n == 0) ≡ false
some n = ne_eqb (suc n) 0 (λ e. omega arith)

yet : (m : Module) (f : Function) (k at : ℕ) (x : PatchWord) (pend : List PatchWord) (fresh : Bool) (ls : List FunLine)
    → blocks_yet m f k at (length (x ∷ pend)) fresh ls ≡ blocks_from m f k at (blocks_with (x ∷ pend) fresh ls)
yet m f k at x pend fresh [] = ap (λ t. if t then [] else block_from m f k at (length (x ∷ pend)) ∷ []) (some (length pend))
yet m f k at x pend fresh (lines.Label name ∷ rest) = yet m f k at x pend true rest
yet m f k at x pend true (lines.Word w ∷ rest) =
    let words = length (x ∷ pend) in
    let blocks = blocks_with (w ∷ []) (is_control w.word) rest in
    let next = blocks_yet m f (k + 1) (at + 4 * words) 1 (is_control w.word) rest in
    ap (λ t. if not t then block_from m f k at words ∷ next else blocks_yet m f k at (words + 1) (is_control w.word) rest) (some (length pend))
    ∙ ap (λ l. block_from m f k at words ∷ l)
    (yet m f (k + 1) (at + 4 * words) w [] (is_control w.word) rest
    ∙ ap (λ n. blocks_from m f n (at + 4 * words) blocks) (add-one k)
    ∙ ap (blocks_from m f (suc k) (at + 4 * words)) (one_joined w (begins (with_starts (is_control w.word) rest)) (cut (with_starts (is_control w.word) rest))))
yet m f k at x pend false (lines.Word w ∷ rest) =
    let ws = with_starts (is_control w.word) rest in
    ap (λ n. blocks_yet m f k at n (is_control w.word) rest) (sym (length-append (x ∷ pend) (w ∷ [])))
    ∙ yet m f k at x (pend ++ w ∷ []) (is_control w.word) rest
    ∙ ap (blocks_from m f k at) (join_more (x ∷ pend) w (begins ws) (cut ws))

yet_all : (m : Module) (f : Function) (ls : List FunLine) → blocks_yet m f 0 0 0 true ls ≡ blocks_from m f 0 0 (cut (with_starts true ls))
yet_all m f [] = refl
yet_all m f (lines.Label name ∷ rest) = yet_all m f rest
yet_all m f (lines.Word w ∷ rest) =
    let ws = with_starts (is_control w.word) rest in
    yet m f 0 0 w [] (is_control w.word) rest ∙ ap (blocks_from m f 0 0) (one_joined w (begins ws) (cut ws))

pub blocks_are : (m : Module) (f : Function) → blocks_yet m f 0 0 0 true f.body ≡ blocks_from m f 0 0 (function_blocks f)
blocks_are m f = yet_all m f f.body
