-- How many blocks of a function begin, line by line.
use Rattle.std.proofs.Common.{◌≡◌, ℕ, ◌+◌, ◌≤◌, Bool, true, false, List, [], ◌∷◌, length, refl, sym, ap, ◌∙◌, arith}
use Rattle.std.specs.Prelude.{if◌then◌else◌}
use Rattle.new_symbols.specs.declared.names.Begun.{Begun}
use Rattle.new_symbols.specs.Naming.{next_begun}
use Rattle.sym_expr.specs.declared.patches.FunLine.{FunLine}
use Rattle.sym_expr.specs.declared.patches.FunLine.TheVariants as lines
use Rattle.sym_expr.specs.declared.patches.Function.{Function}
use Rattle.sym_expr.specs.declared.patches.PatchWord.{PatchWord}
use Rattle.sym_expr.specs.Patches.{is_control, with_starts, begins, add_word, cut, function_blocks}
use Rattle.taken_ids.specs.Functions.{starts_in}

-- how many of the words begin a block
abbrev marks : List (Bool × PatchWord) → ℕ
marks [] = 0
marks ((start, w) ∷ rest) = (if start then 1 else 0) + marks rest

joined_length : (w v : PatchWord) (b : Bool) (bs : List (List PatchWord)) → length (add_word w false (add_word v b bs)) ≡ length (add_word v b bs)
joined_length w v true bs = refl
joined_length w v false [] = refl
joined_length w v false (c ∷ cs) = refl

cut_length : (s : Bool) (w : PatchWord) (rest : List (Bool × PatchWord)) → length (cut ((s, w) ∷ rest)) ≡ 1 + marks rest
cut_length s w [] = refl
cut_length s w ((true, v) ∷ rest) = let next = cut_length true v rest in omega (arith, next)
cut_length s w ((false, v) ∷ rest) =
    let next = cut_length false v rest in
    let same = joined_length w v (begins rest) (cut rest) in
    omega (arith, next, same)

marks_in : (fresh : Bool) (ls : List FunLine) → starts_in fresh ls ≡ marks (with_starts fresh ls)
marks_in fresh [] = refl
marks_in fresh (lines.Label name ∷ rest) = marks_in true rest
marks_in fresh (lines.Word w ∷ rest) = ap (λ n. (if fresh then 1 else 0) + n) (marks_in (is_control w.word) rest)

counted : (ls : List FunLine) → starts_in true ls ≡ length (cut (with_starts true ls))
counted [] = refl
counted (lines.Label name ∷ rest) = counted rest
counted (lines.Word w ∷ rest) = ap (λ n. 1 + n) (marks_in (is_control w.word) rest) ∙ sym (cut_length true w (with_starts (is_control w.word) rest))

pub blocks_counted : (f : Function) → starts_in true f.body ≡ length (function_blocks f)
blocks_counted f = counted f.body

-- one line further the number of all is the same
pub next_counts : (b : Begun) (line : FunLine) (rest : List FunLine) → (next_begun b line).count + starts_in (next_begun b line).fresh rest ≡ b.count + starts_in b.fresh (line ∷ rest)
next_counts b (lines.Label name) rest = refl
next_counts b (lines.Word w) rest = at b.fresh
  where
    at : (x : Bool) → (if x then b.count + 1 else b.count) + starts_in (is_control w.word) rest ≡ b.count + ((if x then 1 else 0) + starts_in (is_control w.word) rest)
    at true = omega arith
    at false = omega arith

pub next_small : (b : Begun) (line : FunLine) (n : ℕ) → b.count ≤ n → (next_begun b line).count ≤ n + 1
next_small b (lines.Label name) n h = omega arith
next_small b (lines.Word w) n h = at b.fresh
  where
    at : (x : Bool) → (if x then b.count + 1 else b.count) ≤ n + 1
    at true = omega arith
    at false = omega arith
