-- Functions cut line by line end as their blocks do.
use Rattle.std.proofs.Common.{◌≡◌, ℕ, zero, suc, ◌+◌, ◌<◌, Bool, true, false, nat_lt, List, [], ◌∷◌, ◌++◌, length, map, get_or, drop, Option, Some, None, refl, sym, ap, ◌∙◌, append_assoc, add-one, arith}
use Rattle.std.specs.Prelude.{if◌then◌else◌}
use Rattle.std.specs.List.{flat_map}
use Rattle.std.specs.Option.{option_map, option_to_list}
use Rattle.std.proofs.lemmas.Bool.{lt-ltb, le-ltb}
use Rattle.std.proofs.lemmas.List.{drop_more}
use Rattle.edge_repair.specs.Edges.{end_edges}
use Rattle.edge_repair.specs.Ends.{End, first_of, function_end, function_ends, last_of}
use Rattle.gt_model.specs.declared.edges.Edge.{Edge}
use Rattle.gt_model.specs.declared.modules.Module.{Module}
use Rattle.new_edges.proofs.Ends.{edges_seen, seen}
use Rattle.new_edges.specs.declared.new_end.LastWord.{LastWord}
use Rattle.new_edges.specs.declared.new_end.NewEnd.{NewEnd}
use Rattle.new_edges.specs.Functions.{block_ids, ends_from, function_edges, function_ids, last_seen, lasts_of, lasts_yet, new_end}
use Rattle.new_edges.specs.NewEnds.{branch_of, edges_of}
use Rattle.sym_expr.specs.declared.patches.FunLine.{FunLine}
use Rattle.sym_expr.specs.declared.patches.FunLine.TheVariants as lines
use Rattle.sym_expr.specs.declared.patches.Function.{Function}
use Rattle.sym_expr.specs.declared.patches.PatchTable.{PatchTable}
use Rattle.sym_expr.specs.declared.patches.PatchWord.{PatchWord}
use Rattle.sym_expr.specs.Patches.{add_word, begins, cut, function_blocks, is_control, with_starts}
use Rattle.sym_expr.specs.TableOk as table
use Rattle.sym_expr.specs.Targets.{function_block_id}

-- ---- the last words of blocks

abbrev lasts : List (Bool × PatchWord) → List PatchWord
lasts [] = []
lasts ((start, w) ∷ rest) = if begins rest then w ∷ lasts rest else lasts rest

joined_last : (w v : PatchWord) (x : Bool) (bs : List (List PatchWord)) → map last_of (add_word w false (add_word v x bs)) ≡ map last_of (add_word v x bs)
joined_last w v true bs = refl
joined_last w v false [] = refl
joined_last w v false (b ∷ bs) = refl

lasts_cut : (ws : List (Bool × PatchWord)) → map last_of (cut ws) ≡ map (λ w. Some w) (lasts ws)
lasts_cut [] = refl
lasts_cut ((start, w) ∷ []) = refl
lasts_cut ((start, w) ∷ (true, v) ∷ rest) = ap (λ l. Some w ∷ l) (lasts_cut ((true, v) ∷ rest))
lasts_cut ((start, w) ∷ (false, v) ∷ rest) = joined_last w v (begins rest) (cut rest) ∙ lasts_cut ((false, v) ∷ rest)

yet : (m : Module) (p : PatchTable) (start : Bool) (w : PatchWord) (fresh : Bool) (ls : List FunLine)
    → lasts_yet m p (Some (last_seen m p w)) fresh ls ≡ map (last_seen m p) (lasts ((start, w) ∷ with_starts fresh ls))
yet m p start w fresh [] = refl
yet m p start w fresh (lines.Label name ∷ rest) = yet m p start w true rest
yet m p start w true (lines.Word v ∷ rest) = ap (λ l. last_seen m p w ∷ l) (yet m p true v (is_control v.word) rest)
yet m p start w false (lines.Word v ∷ rest) = yet m p false v (is_control v.word) rest

yet_all : (m : Module) (p : PatchTable) (ls : List FunLine) → lasts_yet m p None true ls ≡ map (last_seen m p) (lasts (with_starts true ls))
yet_all m p [] = refl
yet_all m p (lines.Label name ∷ rest) = yet_all m p rest
yet_all m p (lines.Word w ∷ rest) = yet m p true w (is_control w.word) rest

-- ---- ends

-- something stands behind exactly the blocks before the last
next_is : (m : Module) (f : Function) (k : ℕ) (bs : List (List PatchWord)) (count : ℕ) → count ≡ k + suc (length bs)
    → (if nat_lt (k + 1) count then Some (function_block_id m f (k + 1)) else None) ≡ option_map (λ (others : List PatchWord). function_block_id m f (suc k)) (first_of bs)
next_is m f k [] count h = ap (λ t. if t then Some (function_block_id m f (k + 1)) else None) (le-ltb (k + 1) count (omega (arith, h)))
next_is m f k (b ∷ bs) count h =
    ap (λ t. if t then Some (function_block_id m f (k + 1)) else None) (lt-ltb (k + 1) count (omega (arith, h)))
    ∙ ap (λ n. Some (function_block_id m f n)) (add-one k)

abbrev end_with : Module → Function → ℕ → LastWord → Option (List ℕ) → NewEnd
end_with m f k l next = record { id = function_block_id m f k; word = Some l.word; branch = l.branch; next = next }

abbrev end_of : Module → Function → ℕ → Option PatchWord → Option (List ℕ) → End
end_of m f k o next = record { id = function_block_id m f k; word = option_map (λ (w : PatchWord). w.word) o; brought = o; next = next }

some_is : (w v : PatchWord) (x y : List (Option PatchWord)) (o : Option PatchWord) → o ∷ x ≡ Some w ∷ y → (o ≡ Some w) × (x ≡ y)
some_is w v x y o h = (cc, cc)

ends_are : (m : Module) (p : PatchTable) (f : Function) (count k : ℕ) (bs : List (List PatchWord)) (ws : List PatchWord) → map last_of bs ≡ map (λ w. Some w) ws → count ≡ k + length bs
    → flat_map edges_of (ends_from m f count k (map (last_seen m p) ws)) ≡ flat_map (end_edges m p) (function_ends m f k bs)
ends_are m p f count k [] [] h n = refl
ends_are m p f count k [] (w ∷ ws) h n = absurd (cc)
ends_are m p f count k (b ∷ bs) [] h n = absurd (cc)
ends_are m p f count k (b ∷ bs) (w ∷ ws) h n =
    let both = some_is w w (map last_of bs) (map (λ w. Some w) ws) (last_of b) h in
    let next = option_map (λ (others : List PatchWord). function_block_id m f (suc k)) (first_of bs) in
    let rest = flat_map edges_of (ends_from m f count (k + 1) (map (last_seen m p) ws)) in
    ap (λ o. edges_of (end_with m f k (last_seen m p w) o) ++ rest) (next_is m f k bs count n)
    ∙ ap (λ l. l ++ rest) (edges_seen m p (end_of m f k (Some w) next))
    ∙ ap (λ o. end_edges m p (end_of m f k o next) ++ rest) (sym both.0)
    ∙ ap (λ l. end_edges m p (function_end m f k b (first_of bs)) ++ l)
    (ends_are m p f count (k + 1) bs ws both.1 (omega (arith, n)) ∙ ap (λ i. flat_map (end_edges m p) (function_ends m f i bs)) (add-one k))

same_length : (bs : List (List PatchWord)) (ws : List PatchWord) → map last_of bs ≡ map (λ w. Some w) ws → length bs ≡ length ws
same_length [] [] h = refl
same_length [] (w ∷ ws) h = absurd (cc)
same_length (b ∷ bs) [] h = absurd (cc)
same_length (b ∷ bs) (w ∷ ws) h = ap (λ n. suc n) (same_length bs ws (some_is w w (map last_of bs) (map (λ w. Some w) ws) (last_of b) h).1)

length_seen : (m : Module) (p : PatchTable) (ws : List PatchWord) → length (map (last_seen m p) ws) ≡ length ws
length_seen m p [] = refl
length_seen m p (w ∷ ws) = ap (λ n. suc n) (length_seen m p ws)

words_of : (m : Module) (p : PatchTable) (f : Function) → lasts_of m p f ≡ map (last_seen m p) (lasts (with_starts true f.body))
words_of m p f = yet_all m p f.body

counted : (m : Module) (p : PatchTable) (f : Function) → length (lasts_of m p f) ≡ length (function_blocks f)
counted m p f =
    let ws = lasts (with_starts true f.body) in
    ap length (words_of m p f) ∙ length_seen m p ws ∙ sym (same_length (function_blocks f) ws (lasts_cut (with_starts true f.body)))

pub function_edges_are : (m : Module) (p : PatchTable) (f : Function) → function_edges m p f ≡ flat_map (end_edges m p) (function_ends m f 0 (function_blocks f))
function_edges_are m p f =
    let ws = lasts (with_starts true f.body) in
    let same = counted m p f in
    let count : length (lasts_of m p f) ≡ 0 + length (function_blocks f) = omega (arith, same) in
    ap (λ (l : List LastWord). flat_map edges_of (ends_from m f (length (lasts_of m p f)) 0 l)) (words_of m p f)
    ∙ ends_are m p f (length (lasts_of m p f)) 0 (function_blocks f) ws (lasts_cut (with_starts true f.body)) count

-- ---- identifiers

ids_are : (m : Module) (f : Function) (k : ℕ) (bs : List (List PatchWord)) → block_ids m f k (length bs) ≡ table.block_ids m f k bs
ids_are m f k [] = refl
ids_are m f k (b ∷ bs) = ap (λ l. function_block_id m f k ∷ l) (ids_are m f (suc k) bs)

pub function_ids_are : (m : Module) (p : PatchTable) (f : Function) → function_ids m p f ≡ table.block_ids m f 0 (function_blocks f)
function_ids_are m p f = ap (block_ids m f 0) (counted m p f) ∙ ids_are m f 0 (function_blocks f)

ids_next : (m : Module) (f : Function) (k n : ℕ) → block_ids m f k (suc n) ≡ block_ids m f k n ++ function_block_id m f (k + n) ∷ []
ids_next m f k zero = ap (λ (i : ℕ). function_block_id m f i ∷ []) (omega arith)
ids_next m f k (suc n) =
    let e : suc k + n ≡ k + suc n = omega arith in
    ap (λ l. function_block_id m f k ∷ l) (ids_next m f (suc k) n) ∙ ap (λ (i : ℕ). function_block_id m f k ∷ (block_ids m f (suc k) n ++ function_block_id m f i ∷ [])) e

pub ids_more : (m : Module) (f : Function) (n : ℕ) → block_ids m f 0 (n + 1) ≡ block_ids m f 0 n ++ function_block_id m f n ∷ []
ids_more m f n =
    let e : 0 + n ≡ n = omega arith in
    rw add-one (ids_next m f 0 n ∙ ap (λ (i : ℕ). block_ids m f 0 n ++ function_block_id m f i ∷ []) e)

-- ---- steps

pub end_more : (m : Module) (f : Function) (count k : ℕ) (ls : List LastWord) (l : LastWord) (before : List Edge) → k < length ls → l ≡ get_or ls k l
    → (before ++ edges_of (new_end m f count k l)) ++ flat_map edges_of (ends_from m f count (k + 1) (drop (k + 1) ls)) ≡ before ++ flat_map edges_of (ends_from m f count k (drop k ls))
end_more m f count k ls l before within is =
    let rest = drop (k + 1) ls in
    append_assoc before (edges_of (new_end m f count k l)) (flat_map edges_of (ends_from m f count (k + 1) rest))
    ∙ ap (λ x. before ++ flat_map edges_of (ends_from m f count k x)) (sym (drop_more ls k l within ∙ ap (λ x. x ∷ rest) (sym is)))
