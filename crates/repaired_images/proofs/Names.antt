-- The names of a function: each stands for one of its blocks, or for the end of the last.
use Rattle.std.proofs.Common.{◌≡◌, ◌≢◌, ℕ, suc, ◌+◌, ◌≤◌, ◌<◌, ◌⊎◌, inl, inr, Bool, true, false, not, List, [], ◌∷◌, length, Option, Some, refl, sym, ap, subst, ◌∙◌, arith}
use Rattle.std.specs.Prelude.{IfSome, if◌then◌else◌}
use Rattle.std.specs.List.{flat_map}
use Rattle.std.specs.Str.{bytes_eq}
use Rattle.std.proofs.lemmas.Bool.{false≢true}
use Rattle.sym_expr.specs.declared.patches.FunLine.{FunLine}
use Rattle.sym_expr.specs.declared.patches.FunLine.TheVariants as lines
use Rattle.sym_expr.specs.declared.patches.Function.{Function}
use Rattle.sym_expr.specs.declared.patches.PatchWord.{PatchWord}
use Rattle.sym_expr.specs.Patches.{FunPlace, Start, End, add_word, begins, cut, function_blocks, is_control, label_in, name_in, place_behind, with_starts}
use Rattle.sym_expr.specs.TableOk.{function_words, line_labels, line_words}
use Rattle.rewrite.specs.Symbols.{names_of}
use Rattle.repaired_images.proofs.Apart.{id_same}
use Rattle.repaired_images.proofs.Lists.{In}

-- all words of blocks
abbrev pub block_words : List (List PatchWord) → ℕ
block_words [] = 0
block_words (b ∷ bs) = length b + block_words bs

added_words : (w : PatchWord) (x : Bool) (bs : List (List PatchWord)) → block_words (add_word w x bs) ≡ suc (block_words bs)
added_words w true bs = omega arith
added_words w false [] = omega arith
added_words w false (b ∷ bs) = omega arith

pub cut_words : (ws : List (Bool × PatchWord)) → block_words (cut ws) ≡ length ws
cut_words [] = refl
cut_words ((start, w) ∷ rest) = added_words w (begins rest) (cut rest) ∙ ap suc (cut_words rest)

pub starts_words : (fresh : Bool) (ls : List FunLine) → length (with_starts fresh ls) ≡ length (flat_map line_words ls)
starts_words fresh [] = refl
starts_words fresh (lines.Label name ∷ rest) = starts_words true rest
starts_words fresh (lines.Word w ∷ rest) = ap suc (starts_words (is_control w.word) rest)

pub all_words : (f : Function) → block_words (function_blocks f) ≡ length (function_words f)
all_words f = cut_words (with_starts true f.body) ∙ starts_words true f.body

-- ---- names stand for blocks that are there

abbrev count_if : Bool → ℕ
count_if true = 1
count_if false = 0

abbrev starts : List (Bool × PatchWord) → ℕ
starts [] = 0
starts ((start, w) ∷ rest) = count_if start + starts rest

added_blocks : (w : PatchWord) (x : Bool) (bs : List (List PatchWord)) (n : ℕ) → length bs ≡ n + count_if (not x) → length (add_word w x bs) ≡ n + 1
added_blocks w true bs n h = omega (arith, h)
added_blocks w false [] n h = omega (arith, h)
added_blocks w false (b ∷ bs) n h = omega (arith, h)

one_more : (x : Bool) (n : ℕ) → n + 1 ≡ count_if x + n + count_if (not x)
one_more true n = omega arith
one_more false n = omega arith

cut_count : (ws : List (Bool × PatchWord)) → length (cut ws) ≡ starts ws + count_if (not (begins ws))
cut_count [] = refl
cut_count ((start, w) ∷ rest) = added_blocks w (begins rest) (cut rest) (starts rest) (cut_count rest) ∙ one_more start (starts rest)

begins_fresh : (ls : List FunLine) → begins (with_starts true ls) ≡ true
begins_fresh [] = refl
begins_fresh (lines.Label name ∷ rest) = begins_fresh rest
begins_fresh (lines.Word w ∷ rest) = refl

block_count : (f : Function) → length (function_blocks f) ≡ starts (with_starts true f.body)
block_count f =
    let count = cut_count (with_starts true f.body) in
    let none = ap (λ x. count_if (not x)) (begins_fresh f.body) in
    omega (arith, count, none)

-- the place is the start of one of so many blocks, or the end
abbrev pub IsWithin : ℕ → FunPlace → Type 0
IsWithin n (Start k) = k < n
IsWithin n End = Unit {0}

behind_within : (k : ℕ) (rest : List FunLine) → IsWithin (k + starts (with_starts true rest)) (place_behind k (with_starts true rest))
behind_within k [] = tt
behind_within k (lines.Label name ∷ rest) = behind_within k rest
behind_within k (lines.Word w ∷ rest) = omega arith

either_within : (n : ℕ) (b : Bool) (place : FunPlace) (o : Option FunPlace) → IsWithin n place → IfSome o (IsWithin n) → IfSome (if b then Some place else o) (IsWithin n)
either_within n true place o h k = h
either_within n false place o h k = k

more_within : (n most : ℕ) (o : Option FunPlace) → n ≡ most → IfSome o (IsWithin n) → IfSome o (IsWithin most)
more_within n most o e h = let Q : ℕ → Type 0 = λ j. IfSome o (IsWithin j) in subst Q e h

label_within : (q : List ℕ) (k : ℕ) (fresh : Bool) (ls : List FunLine) → IfSome (label_in q k fresh ls) (IsWithin (k + starts (with_starts fresh ls)))
label_within q k fresh [] = tt
label_within q k fresh (lines.Label name ∷ rest) = either_within (k + starts (with_starts true rest)) (bytes_eq q name) (place_behind k (with_starts true rest)) (label_in q k true rest) (behind_within k rest) (label_within q k true rest)
label_within q k true (lines.Word w ∷ rest) =
    let fresh = is_control w.word in
    more_within (suc k + starts (with_starts fresh rest)) (k + (1 + starts (with_starts fresh rest))) (label_in q (suc k) fresh rest) (omega arith) (label_within q (suc k) fresh rest)
label_within q k false (lines.Word w ∷ rest) =
    let fresh = is_control w.word in
    more_within (k + starts (with_starts fresh rest)) (k + (0 + starts (with_starts fresh rest))) (label_in q k fresh rest) (omega arith) (label_within q k fresh rest)

-- a function that has a word has a block
pub has_block : (f : Function) → function_words f ≢ [] → 1 ≤ length (function_blocks f)
has_block f h = at (function_blocks f) refl
  where
    none : (ws : List PatchWord) → 0 ≡ length ws → ws ≡ []
    none [] e = refl
    none (w ∷ ws) e = absurd (omega (arith, e))

    at : (bs : List (List PatchWord)) → function_blocks f ≡ bs → 1 ≤ length bs
    at [] e = absurd (h (none (function_words f) (ap block_words (sym e) ∙ all_words f)))
    at (b ∷ bs) e = omega arith

pub name_within : (q : List ℕ) (f : Function) → function_words f ≢ [] → IfSome (name_in q f) (IsWithin (length (function_blocks f)))
name_within q f h =
    either_within (length (function_blocks f)) (bytes_eq q f.name) (Start 0) (label_in q 0 true f.body) (has_block f h)
    (more_within (0 + starts (with_starts true f.body)) (length (function_blocks f)) (label_in q 0 true f.body) (let count = block_count f in omega (arith, count)) (label_within q 0 true f.body))

-- ---- each name has a place

found_place : (b : Bool) (place : FunPlace) (o : Option FunPlace) → (b ≡ true) ⊎ ((x : FunPlace) × (o ≡ Some x)) → (x : FunPlace) × ((if b then Some place else o) ≡ Some x)
found_place true place o h = (place, refl)
found_place false place o (inl e) = absurd (false≢true e)
found_place false place o (inr h) = h

label_found : (q : List ℕ) (k : ℕ) (fresh : Bool) (ls : List FunLine) → In q (flat_map line_labels ls) → (x : FunPlace) × (label_in q k fresh ls ≡ Some x)
label_found q k fresh [] h = absurd h
label_found q k fresh (lines.Label name ∷ rest) (inl e) = found_place (bytes_eq q name) (place_behind k (with_starts true rest)) (label_in q k true rest) (inl (id_same q name e))
label_found q k fresh (lines.Label name ∷ rest) (inr h) = found_place (bytes_eq q name) (place_behind k (with_starts true rest)) (label_in q k true rest) (inr (label_found q k true rest h))
label_found q k fresh (lines.Word w ∷ rest) h = label_found q (if fresh then suc k else k) (is_control w.word) rest h

pub name_found : (q : List ℕ) (f : Function) → In q (names_of f) → (x : FunPlace) × (name_in q f ≡ Some x)
name_found q f (inl e) = found_place (bytes_eq q f.name) (Start 0) (label_in q 0 true f.body) (inl (id_same q f.name e))
name_found q f (inr h) = found_place (bytes_eq q f.name) (Start 0) (label_in q 0 true f.body) (inr (label_found q 0 true f.body h))
