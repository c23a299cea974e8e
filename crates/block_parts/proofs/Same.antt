-- The words with their origins are the words of images.
use Rattle.std.proofs.Common.{◌≡◌, ℕ, suc, ◌+◌, Bool, true, false, List, [], ◌∷◌, ◌++◌, map, refl, sym, ap, ◌∙◌}
use Rattle.std.specs.Prelude.{filter, ◌==◌, if◌then◌else◌}
use Rattle.std.proofs.lemmas.List.{map-append}
use Rattle.block_parts.specs.declared.words.PatchedWord.{PatchedWord}
use Rattle.block_parts.specs.Words.{numbered, inserted, patched_words, words_from}
use Rattle.sym_expr.specs.declared.program.CodeBlock.{CodeBlock}
use Rattle.sym_expr.specs.declared.program.Word.{Word}
use Rattle.sym_expr.specs.Images.{all_words, words_from as image_words}
use Rattle.sym_expr.specs.Patches.{inserted_at}
use Rattle.sym_expr.specs.Points.{ins}

abbrev word_of : Word → ℕ
word_of w = w.word

abbrev bits_of : PatchedWord → ℕ
bits_of w = w.word

either_bits : (x : Bool) (k : ℕ) (w : ℕ × Word) (news : List (ℕ × PatchedWord)) (olds : List (ℕ × Word))
    → map bits_of (map (λ (y : ℕ × PatchedWord). y.1) news) ≡ map word_of (map (λ (y : ℕ × Word). y.1) olds)
    → map bits_of (map (λ (y : ℕ × PatchedWord). y.1) (if x then (w.0, inserted k w.1) ∷ news else news)) ≡ map word_of (map (λ (y : ℕ × Word). y.1) (if x then w ∷ olds else olds))
either_bits true k w news olds h = ap (λ l. w.1.word ∷ l) h
either_bits false k w news olds h = h

at_same : (at k : ℕ) (xs : List (ℕ × Word)) → map bits_of (inserted_at at (numbered k xs)) ≡ map word_of (inserted_at at xs)
at_same at k [] = refl
at_same at k (x ∷ xs) =
    either_bits (at == x.0) k x (filter (λ (w : ℕ × PatchedWord). at == w.0) (numbered (suc k) xs)) (filter (λ (w : ℕ × Word). at == w.0) xs) (at_same at (suc k) xs)

from_same : (b : CodeBlock) (at : ℕ) (ws : List Word) → map bits_of (words_from (numbered 0 b.inserted) at ws) ≡ map word_of (image_words b at ws)
from_same b at [] = at_same at 0 b.inserted
from_same b at (w ∷ ws) =
    map-append bits_of (inserted_at at (numbered 0 b.inserted)) _
    ∙ ap (λ l. l ++ w.word ∷ map bits_of (words_from (numbered 0 b.inserted) (at + 4) ws)) (at_same at 0 b.inserted)
    ∙ ap (λ l. map word_of (ins b at) ++ w.word ∷ l) (from_same b (at + 4) ws)
    ∙ sym (map-append word_of (ins b at) _)

pub same : (b : CodeBlock) → map (λ (w : PatchedWord). w.word) (patched_words b) ≡ map (λ (w : Word). w.word) (all_words b)
same b = from_same b 0 b.own
