-- The own words of a block stand before its end.
use Rattle.std.proofs.Common.{◌≡◌, ℕ, zero, suc, ◌+◌, ◌*◌, ◌<◌, ◌≤◌, ◌==◌, Bool, true, false, List, [], ◌∷◌, ◌++◌, length, get_or, map, arith}
use Rattle.std.specs.Prelude.{filter, if◌then◌else◌}
use Rattle.std.specs.List.{AllByRecursion}
use Rattle.block_parts.specs.declared.words.PatchedWord.{PatchedWord}
use Rattle.block_parts.specs.Words.{inserted, numbered, own, patched_words, words_from}
use Rattle.moved_modules.specs.Near.{IsNear}
use Rattle.sym_expr.specs.declared.program.CodeBlock.{CodeBlock}
use Rattle.sym_expr.specs.declared.program.Word.{Word}
use Rattle.sym_expr.specs.Patches.{inserted_at}

both : (end : ℕ) (xs ys : List PatchedWord) → AllByRecursion (IsNear end) xs → AllByRecursion (IsNear end) ys → AllByRecursion (IsNear end) (xs ++ ys)
both end [] ys h k = k
both end (x ∷ xs) ys h k = (h.0, both end xs ys h.1 k)

-- inserted words are near whatever the end
abbrev NearNews : ℕ → List (ℕ × PatchedWord) → Type 0
NearNews end news = AllByRecursion (λ (w : ℕ × PatchedWord). IsNear end w.1) news

numbered_near : (end k : ℕ) (ws : List (ℕ × Word)) → NearNews end (numbered k ws)
numbered_near end k [] = tt
numbered_near end k (w ∷ ws) = (tt, numbered_near end (suc k) ws)

at_near : (end offset : ℕ) (news : List (ℕ × PatchedWord)) → NearNews end news → AllByRecursion (IsNear end) (inserted_at offset news)
at_near end offset [] h = tt
at_near end offset (w ∷ ws) h = either (offset == w.0) (at_near end offset ws h.1)
  where
    either : (b : Bool) → AllByRecursion (IsNear end) (inserted_at offset ws)
        → AllByRecursion (IsNear end) (map (λ (x : ℕ × PatchedWord). x.1) (if b then w ∷ filter (λ (x : ℕ × PatchedWord). offset == x.0) ws else filter (λ (x : ℕ × PatchedWord). offset == x.0) ws))
    either true rest = (h.0, rest)
    either false rest = rest

from_near : (end : ℕ) (news : List (ℕ × PatchedWord)) (offset : ℕ) (ws : List Word) → NearNews end news → offset + 4 * length ws ≤ end → AllByRecursion (IsNear end) (words_from news offset ws)
from_near end news offset [] h room = at_near end offset news h
from_near end news offset (w ∷ ws) h room =
    both end (inserted_at offset news) (own offset w ∷ words_from news (offset + 4) ws) (at_near end offset news h)
    (omega arith, from_near end news (offset + 4) ws h (omega arith))

pub words_near : (end : ℕ) (b : CodeBlock) → 4 * length b.own ≤ end → AllByRecursion (IsNear end) (patched_words b)
words_near end b room = from_near end (numbered 0 b.inserted) 0 b.own (numbered_near end 0 b.inserted) (omega arith)

pub near_at : (end : ℕ) (ws : List PatchedWord) (k : ℕ) (d : PatchedWord) → AllByRecursion (IsNear end) ws → k < length ws → IsNear end (get_or ws k d)
near_at end [] k d h within = absurd (omega arith)
near_at end (w ∷ ws) zero d h within = h.0
near_at end (w ∷ ws) (suc k) d h within = near_at end ws k d h.1 (omega arith)
