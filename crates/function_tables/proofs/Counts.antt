-- How many blocks a function has, and the identifiers of so many.
use Rattle.std.proofs.Common.{◌≡◌, ℕ, zero, suc, ◌+◌, Bool, true, false, List, [], ◌∷◌, ◌++◌, length, refl, sym, ap, ◌∙◌, add-one, take, drop, get_or, ◌<◌, arith}
use Rattle.std.specs.Prelude.{if◌then◌else◌}
use Rattle.sym_expr.specs.declared.patches.FunLine.{FunLine}
use Rattle.sym_expr.specs.declared.patches.FunLine.TheVariants as lines
use Rattle.sym_expr.specs.declared.patches.Function.{Function}
use Rattle.sym_expr.specs.declared.patches.PatchWord.{PatchWord}
use Rattle.sym_expr.specs.TableOk.{block_ids}
use Rattle.sym_expr.specs.Targets.{function_block_id}
use Rattle.gt_model.specs.declared.modules.Module.{Module}
use Rattle.sym_expr.specs.Patches.{is_control, with_starts, begins, add_word, cut, function_blocks}
use Rattle.taken_ids.specs.Functions.{starts_in}

-- how many of the words begin a block
abbrev marks : List (Bool × PatchWord) → ℕ
marks [] = 0
marks ((start, w) ∷ rest) = (if start then 1 else 0) + marks rest

joined_length : (w v : PatchWord) (b : Bool) (bs : List (List PatchWord)) → length (add_word w false (add_word v b bs)) ≡ length (add_word v b bs)
joined_length w v true bs = refl
joined_length w v false [] = refl
joined_length w v false (c ∷ cs) = refl

cut_length : (s : Bool) (w : PatchWord) (rest : List (Bool × PatchWord)) → length (cut ((s, w) ∷ rest)) ≡ 1 + marks rest
cut_length s w [] = refl
cut_length s w ((true, v) ∷ rest) = let next = cut_length true v rest in omega (arith, next)
cut_length s w ((false, v) ∷ rest) =
    let next = cut_length false v rest in
    let same = joined_length w v (begins rest) (cut rest) in
    omega (arith, next, same)

marks_in : (fresh : Bool) (ls : List FunLine) → starts_in fresh ls ≡ marks (with_starts fresh ls)
marks_in fresh [] = refl
marks_in fresh (lines.Label name ∷ rest) = marks_in true rest
marks_in fresh (lines.Word w ∷ rest) = ap (λ n. (if fresh then 1 else 0) + n) (marks_in (is_control w.word) rest)

counted : (ls : List FunLine) → starts_in true ls ≡ length (cut (with_starts true ls))
counted [] = refl
counted (lines.Label name ∷ rest) = counted rest
counted (lines.Word w ∷ rest) = ap (λ n. 1 + n) (marks_in (is_control w.word) rest) ∙ sym (cut_length true w (with_starts (is_control w.word) rest))

pub blocks_counted : (f : Function) → starts_in true f.body ≡ length (function_blocks f)
blocks_counted f = counted f.body

-- so many identifiers of the blocks of a function, from the k-th on
abbrev pub first_ids : Module → Function → ℕ → ℕ → List (List ℕ)
first_ids m f k zero = []
first_ids m f k (suc n) = function_block_id m f k ∷ first_ids m f (suc k) n

pub ids_counted : (m : Module) (f : Function) (k : ℕ) (bs : List (List PatchWord)) → first_ids m f k (length bs) ≡ block_ids m f k bs
ids_counted m f k [] = refl
ids_counted m f k (b ∷ bs) = ap (λ l. function_block_id m f k ∷ l) (ids_counted m f (suc k) bs)

ids_more : (m : Module) (f : Function) (k n : ℕ) → first_ids m f k (suc n) ≡ first_ids m f k n ++ function_block_id m f (k + n) ∷ []
ids_more m f k zero = let e : k ≡ k + 0 = omega arith in ap (λ j. function_block_id m f j ∷ []) e
ids_more m f k (suc n) =
    let e : suc k + n ≡ k + suc n = omega arith in
    ap (λ l. function_block_id m f k ∷ l) (ids_more m f (suc k) n ∙ ap (λ j. first_ids m f (suc k) n ++ function_block_id m f j ∷ []) e)

-- one block more
pub first_ids_more : (m : Module) (f : Function) (n : ℕ) → first_ids m f 0 (n + 1) ≡ first_ids m f 0 n ++ function_block_id m f n ∷ []
first_ids_more m f n =
    let e : 0 + n ≡ n = omega arith in
    ap (first_ids m f 0) (add-one n) ∙ ids_more m f 0 n ∙ ap (λ j. first_ids m f 0 n ++ function_block_id m f j ∷ []) e
