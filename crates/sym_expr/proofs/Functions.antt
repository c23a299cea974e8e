-- The blocks of functions: their identifiers, places and sizes.
use Rattle.std.proofs.Common.{◌≡◌, ◌≢◌, ℕ, zero, suc, ◌+◌, ◌-◌, ◌*◌, ◌%◌, ◌≤◌, ◌<◌, Bool, true, false, not, List, [], ◌∷◌, length, map, get_or, Option, Some, refl, sym, ap, subst, ◌∙◌, arith}
use Rattle.std.specs.Prelude.{IfSome, if◌then◌else◌}
use Rattle.std.specs.List.{AllByRecursion as Every, flat_map}
use Rattle.std.specs.Str.{bytes_eq}
use Rattle.std.proofs.lemmas.List.{length-map}
use Rattle.gt_model.specs.declared.modules.Module.{Module}
use Rattle.sym_expr.specs.declared.patches.FunLine.{FunLine}
use Rattle.sym_expr.specs.declared.patches.FunLine.TheVariants as lines
use Rattle.sym_expr.specs.declared.patches.Function.{Function}
use Rattle.sym_expr.specs.declared.patches.PatchTable.{PatchTable}
use Rattle.sym_expr.specs.declared.patches.PatchWord.{PatchWord}
use Rattle.sym_expr.specs.declared.program.CodeBlock.{CodeBlock}
use Rattle.sym_expr.specs.declared.program.Piece.{Piece}
use Rattle.sym_expr.specs.declared.program.Piece.TheVariants.{Code as CodePiece}
use Rattle.sym_expr.specs.Layouts.{least_from}
use Rattle.sym_expr.specs.Patches.{FunPlace, Start, End, add_word, begins, cut, function_blocks, is_control, label_in, name_in, place_behind, with_starts}
use Rattle.sym_expr.specs.Placing.{end_from, new_size, step_of}
use Rattle.sym_expr.specs.Points.{code_size}
use Rattle.sym_expr.specs.Program.{function_pieces, patched_word}
use Rattle.sym_expr.specs.TableOk.{block_ids, function_words, line_words}
use Rattle.sym_expr.specs.Targets.{function_block_id}
use Rattle.sym_expr.specs.WellMade.{IsTiled, block_id}
use Rattle.sym_expr.proofs.Rooms.{least_room}

-- the k-th block, which stands at an offset
abbrev pub piece_at : Module → PatchTable → Function → ℕ → ℕ → List PatchWord → CodeBlock
piece_at m p f k at words = record { id = function_block_id m f k; offset = at; own = map (patched_word m p) words; inserted = [] }

pub ids_of : (m : Module) (p : PatchTable) (f : Function) (k at : ℕ) (bs : List (List PatchWord)) → flat_map block_id (function_pieces m p f k at bs) ≡ block_ids m f k bs
ids_of m p f k at [] = refl
ids_of m p f k at (b ∷ bs) = ap (λ l. function_block_id m f k ∷ l) (ids_of m p f (suc k) (at + 4 * length b) bs)

pub function_size : (m : Module) (p : PatchTable) (f : Function) (k at : ℕ) (b : List PatchWord) → code_size (piece_at m p f k at b) ≡ 4 * length b
function_size m p f k at b = ap (λ n. 4 * n) (length-map b (patched_word m p))

tiled_on : (at from : ℕ) (ps : List Piece) → at ≡ from → IsTiled at ps → IsTiled from ps
tiled_on at from ps e h = let P : ℕ → Type 0 = λ n. IsTiled n ps in subst P e h

pub function_tiled : (m : Module) (p : PatchTable) (f : Function) (k at : ℕ) (bs : List (List PatchWord)) → at % 4 ≡ 0 → IsTiled at (function_pieces m p f k at bs)
function_tiled m p f k at [] h = tt
function_tiled m p f k at (b ∷ bs) h =
    let size = function_size m p f k at b in
    (refl, h, tiled_on (at + 4 * length b) (at + code_size (piece_at m p f k at b)) (function_pieces m p f (suc k) (at + 4 * length b) bs) (omega (arith, size)) (function_tiled m p f (suc k) (at + 4 * length b) bs (omega (arith, h))))

-- all words of blocks
abbrev pub block_words : List (List PatchWord) → ℕ
block_words [] = 0
block_words (b ∷ bs) = length b + block_words bs

pub function_room : (m : Module) (p : PatchTable) (f : Function) (k at a : ℕ) (bs : List (List PatchWord)) → end_from a (function_pieces m p f k at bs) ≤ a + 4 * block_words bs
function_room m p f k at a [] = omega arith
function_room m p f k at a (b ∷ bs) =
    let q : Piece = CodePiece (piece_at m p f k at b) in
    let own = length-map b (patched_word m p) in
    let here = least_room a 1 (omega arith) in
    let rest = function_room m p f (suc k) (at + 4 * length b) (least_from a (step_of q) 0 + new_size q) bs in
    omega (arith, own, here, rest)

-- what holds of each block holds of the k-th
pub nth_block : (P : Piece → Type 0) (m : Module) (p : PatchTable) (f : Function) (k at : ℕ) (bs : List (List PatchWord)) (n : ℕ) → Every P (function_pieces m p f k at bs) → n < length bs
    → (offset : ℕ) × P (CodePiece (piece_at m p f (k + n) offset (get_or bs n [])))
nth_block P m p f k at [] n h within = absurd (omega arith)
nth_block P m p f k at (b ∷ bs) zero h within = let same : k ≡ k + 0 = omega arith in (at, (let Q : ℕ → Type 0 = λ j. P (CodePiece (piece_at m p f j at b)) in subst Q same h.0))
nth_block P m p f k at (b ∷ bs) (suc n) h within =
    let next = nth_block P m p f (suc k) (at + 4 * length b) bs n h.1 (omega arith) in
    let same : suc k + n ≡ k + suc n = omega arith in
    (next.0, (let Q : ℕ → Type 0 = λ j. P (CodePiece (piece_at m p f j next.0 (get_or bs n []))) in subst Q same next.1))

-- ---- cutting keeps the words

added_words : (w : PatchWord) (x : Bool) (bs : List (List PatchWord)) → block_words (add_word w x bs) ≡ suc (block_words bs)
added_words w true bs = omega arith
added_words w false [] = omega arith
added_words w false (b ∷ bs) = omega arith

pub cut_words : (ws : List (Bool × PatchWord)) → block_words (cut ws) ≡ length ws
cut_words [] = refl
cut_words ((start, w) ∷ rest) = added_words w (begins rest) (cut rest) ∙ ap suc (cut_words rest)

pub starts_words : (fresh : Bool) (ls : List FunLine) → length (with_starts fresh ls) ≡ length (flat_map line_words ls)
starts_words fresh [] = refl
starts_words fresh (lines.Label name ∷ rest) = starts_words true rest
starts_words fresh (lines.Word w ∷ rest) = ap suc (starts_words (is_control w.word) rest)

pub all_words : (f : Function) → block_words (function_blocks f) ≡ length (function_words f)
all_words f = cut_words (with_starts true f.body) ∙ starts_words true f.body

-- what holds of each word holds in each block
pub cut_each : (P : PatchWord → Type 0) (ws : List (Bool × PatchWord)) → Every (λ (w : Bool × PatchWord). P w.1) ws → Every (Every P) (cut ws)
cut_each P [] h = tt
cut_each P ((start, w) ∷ rest) h = added (begins rest) (cut rest) h.0 (cut_each P rest h.1)
  where
    added : (x : Bool) (bs : List (List PatchWord)) → P w → Every (Every P) bs → Every (Every P) (add_word w x bs)
    added true bs l k = ((l, tt), k)
    added false [] l k = ((l, tt), tt)
    added false (b ∷ bs) l k = ((l, k.0), k.1)

pub starts_each : (P : PatchWord → Type 0) (fresh : Bool) (ls : List FunLine) → Every P (flat_map line_words ls) → Every (λ (w : Bool × PatchWord). P w.1) (with_starts fresh ls)
starts_each P fresh [] h = tt
starts_each P fresh (lines.Label name ∷ rest) h = starts_each P true rest h
starts_each P fresh (lines.Word w ∷ rest) h = (h.0, starts_each P (is_control w.word) rest h.1)

-- ---- names stand for blocks that are there

abbrev count_if : Bool → ℕ
count_if true = 1
count_if false = 0

abbrev starts : List (Bool × PatchWord) → ℕ
starts [] = 0
starts ((start, w) ∷ rest) = count_if start + starts rest

added_blocks : (w : PatchWord) (x : Bool) (bs : List (List PatchWord)) (n : ℕ) → length bs ≡ n + count_if (not x) → length (add_word w x bs) ≡ n + 1
added_blocks w true bs n h = omega (arith, h)
added_blocks w false [] n h = omega (arith, h)
added_blocks w false (b ∷ bs) n h = omega (arith, h)

one_more : (x : Bool) (n : ℕ) → n + 1 ≡ count_if x + n + count_if (not x)
one_more true n = omega arith
one_more false n = omega arith

cut_count : (ws : List (Bool × PatchWord)) → length (cut ws) ≡ starts ws + count_if (not (begins ws))
cut_count [] = refl
cut_count ((start, w) ∷ rest) = added_blocks w (begins rest) (cut rest) (starts rest) (cut_count rest) ∙ one_more start (starts rest)

begins_fresh : (ls : List FunLine) → begins (with_starts true ls) ≡ true
begins_fresh [] = refl
begins_fresh (lines.Label name ∷ rest) = begins_fresh rest
begins_fresh (lines.Word w ∷ rest) = refl

block_count : (f : Function) → length (function_blocks f) ≡ starts (with_starts true f.body)
block_count f =
    let count = cut_count (with_starts true f.body) in
    let none = ap (λ x. count_if (not x)) (begins_fresh f.body) in
    omega (arith, count, none)

-- the place is the start of one of so many blocks, or the end
abbrev pub IsWithin : ℕ → FunPlace → Type 0
IsWithin n (Start k) = k < n
IsWithin n End = Unit {0}

behind_within : (k : ℕ) (rest : List FunLine) → IsWithin (k + starts (with_starts true rest)) (place_behind k (with_starts true rest))
behind_within k [] = tt
behind_within k (lines.Label name ∷ rest) = behind_within k rest
behind_within k (lines.Word w ∷ rest) = omega arith

either_within : (n : ℕ) (b : Bool) (place : FunPlace) (o : Option FunPlace) → IsWithin n place → IfSome o (IsWithin n) → IfSome (if b then Some place else o) (IsWithin n)
either_within n true place o h k = h
either_within n false place o h k = k

more_within : (n most : ℕ) (o : Option FunPlace) → n ≡ most → IfSome o (IsWithin n) → IfSome o (IsWithin most)
more_within n most o e h = let Q : ℕ → Type 0 = λ j. IfSome o (IsWithin j) in subst Q e h

label_within : (q : List ℕ) (k : ℕ) (fresh : Bool) (ls : List FunLine) → IfSome (label_in q k fresh ls) (IsWithin (k + starts (with_starts fresh ls)))
label_within q k fresh [] = tt
label_within q k fresh (lines.Label name ∷ rest) = either_within (k + starts (with_starts true rest)) (bytes_eq q name) (place_behind k (with_starts true rest)) (label_in q k true rest) (behind_within k rest) (label_within q k true rest)
label_within q k true (lines.Word w ∷ rest) =
    let fresh = is_control w.word in
    more_within (suc k + starts (with_starts fresh rest)) (k + (1 + starts (with_starts fresh rest))) (label_in q (suc k) fresh rest) (omega arith) (label_within q (suc k) fresh rest)
label_within q k false (lines.Word w ∷ rest) =
    let fresh = is_control w.word in
    more_within (k + starts (with_starts fresh rest)) (k + (0 + starts (with_starts fresh rest))) (label_in q k fresh rest) (omega arith) (label_within q k fresh rest)

-- a function that has a word has a block
pub has_block : (f : Function) → function_words f ≢ [] → 1 ≤ length (function_blocks f)
has_block f h = at (function_blocks f) refl
  where
    none : (ws : List PatchWord) → 0 ≡ length ws → ws ≡ []
    none [] e = refl
    none (w ∷ ws) e = absurd (omega (arith, e))

    at : (bs : List (List PatchWord)) → function_blocks f ≡ bs → 1 ≤ length bs
    at [] e = absurd (h (none (function_words f) (ap block_words (sym e) ∙ all_words f)))
    at (b ∷ bs) e = omega arith

pub name_within : (q : List ℕ) (f : Function) → function_words f ≢ [] → IfSome (name_in q f) (IsWithin (length (function_blocks f)))
name_within q f h =
    either_within (length (function_blocks f)) (bytes_eq q f.name) (Start 0) (label_in q 0 true f.body) (has_block f h)
    (more_within (0 + starts (with_starts true f.body)) (length (function_blocks f)) (label_in q 0 true f.body) (let count = block_count f in omega (arith, count)) (label_within q 0 true f.body))
