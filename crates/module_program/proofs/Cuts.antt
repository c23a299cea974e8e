-- A function cut line by line is cut as by its words.
use Rattle.std.proofs.Common.{◌≡◌, ℕ, suc, ◌+◌, ◌-◌, ◌*◌, ◌≤◌, Bool, true, false, List, [], ◌∷◌, ◌++◌, length, map, get_or, refl, sym, ap, ◌∙◌, append_assoc, add-one, arith}
use Rattle.std.specs.Prelude.{if◌then◌else◌}
use Rattle.std.proofs.lemmas.List.{length-map, map-append, length-append}
use Rattle.gt_model.specs.declared.modules.Module.{Module}
use Rattle.module_program.specs.Building.{block_piece, pieces_yet}
use Rattle.module_program.specs.Cutting.{cut_behind, first_cut, next_cut, whole_cut}
use Rattle.module_program.specs.declared.cut.Cut.{Cut}
use Rattle.sym_expr.specs.declared.patches.FunLine.{FunLine}
use Rattle.sym_expr.specs.declared.patches.FunLine.TheVariants as lines
use Rattle.sym_expr.specs.declared.patches.Function.{Function}
use Rattle.sym_expr.specs.declared.patches.PatchTable.{PatchTable}
use Rattle.sym_expr.specs.declared.patches.PatchWord.{PatchWord}
use Rattle.sym_expr.specs.declared.program.Word.{Word}
use Rattle.sym_expr.specs.Patches.{is_control, with_starts, begins, add_word, cut, function_blocks}
use Rattle.sym_expr.specs.Program.{function_pieces, patched_word}

-- words before the blocks that follow: in a block of their own, or in the first of them
abbrev join : List PatchWord → Bool → List (List PatchWord) → List (List PatchWord)
join pend true blocks = pend ∷ blocks
join pend false [] = pend ∷ []
join pend false (b ∷ bs) = (pend ++ b) ∷ bs

one_joined : (w : PatchWord) (x : Bool) (bs : List (List PatchWord)) → join (w ∷ []) x bs ≡ add_word w x bs
one_joined w true bs = refl
one_joined w false [] = refl
one_joined w false (b ∷ bs) = refl

join_more : (pend : List PatchWord) (w : PatchWord) (x : Bool) (bs : List (List PatchWord)) → join (pend ++ w ∷ []) x bs ≡ join pend false (add_word w x bs)
join_more pend w true bs = refl
join_more pend w false [] = refl
join_more pend w false (b ∷ bs) = ap (λ l. l ∷ bs) (append_assoc pend (w ∷ []) b)

-- the blocks of a word or more, and of the lines behind them
abbrev blocks_with : List PatchWord → Bool → List FunLine → List (List PatchWord)
blocks_with pend fresh ls = join pend (begins (with_starts fresh ls)) (cut (with_starts fresh ls))

-- ---- as pieces

yet : (m : Module) (p : PatchTable) (f : Function) (k at : ℕ) (x : PatchWord) (pend : List PatchWord) (fresh : Bool) (ls : List FunLine)
    → pieces_yet m p f k at (map (patched_word m p) (x ∷ pend)) fresh ls ≡ function_pieces m p f k at (blocks_with (x ∷ pend) fresh ls)
yet m p f k at x pend fresh [] = refl
yet m p f k at x pend fresh (lines.Label name ∷ rest) = yet m p f k at x pend true rest
yet m p f k at x pend true (lines.Word w ∷ rest) =
    let own : List Word = map (patched_word m p) (x ∷ pend) in
    let blocks = blocks_with (w ∷ []) (is_control w.word) rest in
    let size : length own ≡ length (x ∷ pend) = length-map (x ∷ pend) (patched_word m p) in
    ap (λ l. block_piece m f k at own ∷ l)
    (yet m p f (k + 1) (at + 4 * length own) w [] (is_control w.word) rest
    ∙ ap (λ n. function_pieces m p f n (at + 4 * length own) blocks) (add-one k)
    ∙ ap (λ n. function_pieces m p f (suc k) (at + 4 * n) blocks) size
    ∙ ap (function_pieces m p f (suc k) (at + 4 * length (x ∷ pend))) (one_joined w (begins (with_starts (is_control w.word) rest)) (cut (with_starts (is_control w.word) rest))))
yet m p f k at x pend false (lines.Word w ∷ rest) =
    let ws = with_starts (is_control w.word) rest in
    ap (λ own. pieces_yet m p f k at own (is_control w.word) rest) (sym (map-append (patched_word m p) (x ∷ pend) (w ∷ [])))
    ∙ yet m p f k at x (pend ++ w ∷ []) (is_control w.word) rest
    ∙ ap (function_pieces m p f k at) (join_more (x ∷ pend) w (begins ws) (cut ws))

yet_all : (m : Module) (p : PatchTable) (f : Function) (ls : List FunLine) → pieces_yet m p f 0 0 [] true ls ≡ function_pieces m p f 0 0 (cut (with_starts true ls))
yet_all m p f [] = refl
yet_all m p f (lines.Label name ∷ rest) = yet_all m p f rest
yet_all m p f (lines.Word w ∷ rest) =
    let ws = with_starts (is_control w.word) rest in
    yet m p f 0 0 w [] (is_control w.word) rest ∙ ap (function_pieces m p f 0 0) (one_joined w (begins ws) (cut ws))

pub pieces_are : (m : Module) (p : PatchTable) (f : Function) → pieces_yet m p f 0 0 [] true f.body ≡ function_pieces m p f 0 0 (function_blocks f)
pieces_are m p f = yet_all m p f f.body

-- ---- in numbers

-- how many words the last block has
abbrev last_words : List (List PatchWord) → ℕ
last_words [] = 0
last_words (b ∷ []) = length b
last_words (b ∷ c ∷ rest) = last_words (c ∷ rest)

last_is : (bs : List (List PatchWord)) → last_words bs ≡ length (get_or bs (length bs - 1) [])
last_is [] = refl
last_is (b ∷ []) = refl
last_is (b ∷ c ∷ rest) =
    let e : suc (length (c ∷ rest) - 1) ≡ length (b ∷ c ∷ rest) - 1 = omega arith in
    last_is (c ∷ rest) ∙ ap (λ n. length (get_or (b ∷ c ∷ rest) n [])) e

last_behind : (b pend : List PatchWord) (x : Bool) (bs : List (List PatchWord)) → last_words (b ∷ join pend x bs) ≡ last_words (join pend x bs)
last_behind b pend true bs = refl
last_behind b pend false [] = refl
last_behind b pend false (c ∷ bs) = refl

-- the numbers of a cut are those of blocks
abbrev Counts : Cut → ℕ → List (List PatchWord) → Type 0
Counts c n bs = (c.blocks ≡ n + length bs) × (c.last ≡ last_words bs)

cut_yet : (n b l : ℕ) (x : PatchWord) (pend : List PatchWord) (fresh : Bool) (ls : List FunLine) → b ≡ n + 1 → l ≡ length (x ∷ pend)
    → Counts (cut_behind (record { blocks = b; last = l; fresh = fresh }) ls) n (blocks_with (x ∷ pend) fresh ls)
cut_yet n b l x pend fresh [] begun size = (begun, size)
cut_yet n b l x pend fresh (lines.Label name ∷ rest) begun size = cut_yet n b l x pend true rest begun size
cut_yet n b l x pend true (lines.Word w ∷ rest) begun size =
    let fresh = is_control w.word in
    let ws = with_starts fresh rest in
    let next = cut_yet b (b + 1) 1 w [] fresh rest refl refl in
    let same = one_joined w (begins ws) (cut ws) in
    let count = ap (λ (bs : List (List PatchWord)). length bs) same in
    let behind = last_behind (x ∷ pend) (w ∷ []) (begins ws) (cut ws) in
    let whole = ap (λ (bs : List (List PatchWord)). last_words ((x ∷ pend) ∷ bs)) same in
    (omega (arith, next.0, count, begun), next.1 ∙ sym behind ∙ whole)
cut_yet n b l x pend false (lines.Word w ∷ rest) begun size =
    let fresh = is_control w.word in
    let ws = with_starts fresh rest in
    let longer = length-append (x ∷ pend) (w ∷ []) in
    let more : l + 1 ≡ length (x ∷ (pend ++ w ∷ [])) = omega (arith, longer, size) in
    let next = cut_yet n b (l + 1) x (pend ++ w ∷ []) fresh rest begun more in
    let same = join_more (x ∷ pend) w (begins ws) (cut ws) in
    (next.0 ∙ ap (λ (bs : List (List PatchWord)). n + length bs) same, next.1 ∙ ap last_words same)

cut_all : (ls : List FunLine) → Counts (cut_behind first_cut ls) 0 (cut (with_starts true ls))
cut_all [] = (refl, refl)
cut_all (lines.Label name ∷ rest) = cut_all rest
cut_all (lines.Word w ∷ rest) =
    let ws = with_starts (is_control w.word) rest in
    let next = cut_yet 0 1 1 w [] (is_control w.word) rest refl refl in
    let same = one_joined w (begins ws) (cut ws) in
    (next.0 ∙ ap (λ (bs : List (List PatchWord)). 0 + length bs) same, next.1 ∙ ap last_words same)

pub block_count : (f : Function) → (whole_cut f).blocks ≡ length (function_blocks f)
block_count f = let all = cut_all f.body in omega (arith, all.0)

pub last_count : (f : Function) → (whole_cut f).last ≡ length (get_or (function_blocks f) (length (function_blocks f) - 1) [])
last_count f = (cut_all f.body).1 ∙ last_is (function_blocks f)

-- the numbers never fall
pub blocks_rise : (b l : ℕ) (fresh : Bool) (ls : List FunLine) → b ≤ (cut_behind (record { blocks = b; last = l; fresh = fresh }) ls).blocks
blocks_rise b l fresh [] = omega arith
blocks_rise b l fresh (lines.Label name ∷ rest) = blocks_rise b l true rest
blocks_rise b l true (lines.Word w ∷ rest) = let next = blocks_rise (b + 1) 1 (is_control w.word) rest in omega (arith, next)
blocks_rise b l false (lines.Word w ∷ rest) = blocks_rise b (l + 1) (is_control w.word) rest

-- the last block has no more words than there are lines
last_rises : (b l : ℕ) (fresh : Bool) (ls : List FunLine) → (cut_behind (record { blocks = b; last = l; fresh = fresh }) ls).last ≤ l + length ls
last_rises b l fresh [] = omega arith
last_rises b l fresh (lines.Label name ∷ rest) = let next = last_rises b l true rest in omega (arith, next)
last_rises b l true (lines.Word w ∷ rest) = let next = last_rises (b + 1) 1 (is_control w.word) rest in omega (arith, next)
last_rises b l false (lines.Word w ∷ rest) = let next = last_rises b (l + 1) (is_control w.word) rest in omega (arith, next)

pub last_most : (f : Function) → (whole_cut f).last ≤ length f.body
last_most f = let most = last_rises 0 0 true f.body in omega (arith, most)

-- one line adds one at most
pub next_small : (c : Cut) (line : FunLine) (n : ℕ) → c.blocks ≤ n → c.last ≤ n → ((next_cut c line).blocks ≤ n + 1) × ((next_cut c line).last ≤ n + 1)
next_small c (lines.Label name) n h k = (omega arith, omega arith)
next_small c (lines.Word w) n h k = at c.fresh
  where
    at : (x : Bool) → ((if x then c.blocks + 1 else c.blocks) ≤ n + 1) × ((if x then 1 else c.last + 1) ≤ n + 1)
    at true = (omega arith, omega arith)
    at false = (omega arith, omega arith)
