-- The words of a code block with those that patches insert, and where each comes from.
use Rattle.std.specs.Prelude.{ℕ, suc, ◌+◌, Bool, true, false, List, [], ◌∷◌, ◌++◌}
use Rattle.sym_expr.specs.declared.program.CodeBlock.{CodeBlock}
use Rattle.sym_expr.specs.declared.program.Word.{Word}
use Rattle.sym_expr.specs.Patches.{inserted_at}
use Rattle.block_parts.specs.declared.words.Origin.{Origin}
use Rattle.block_parts.specs.declared.words.Origin.TheVariants.{Own, Inserted}
use Rattle.block_parts.specs.declared.words.PatchedWord.{PatchedWord}

-- a word of the block's own, at an offset
abbrev pub own : ℕ → Word → PatchedWord
own offset w = record { word = w.word; origin = Own offset }

-- the k-th of the inserted words
abbrev pub inserted : ℕ → Word → PatchedWord
inserted k w = record { word = w.word; origin = Inserted k }

abbrev pub is_inserted_from : Origin → Bool
is_inserted_from (Own offset) = false
is_inserted_from (Inserted k) = true

abbrev pub is_inserted : PatchedWord → Bool
is_inserted w = is_inserted_from w.origin

-- inserted words by their offset, numbered from k on in the order of the patches
abbrev pub numbered : ℕ → List (ℕ × Word) → List (ℕ × PatchedWord)
numbered k [] = []
numbered k (w ∷ ws) = (w.0, inserted k w.1) ∷ numbered (suc k) ws

-- own words from an offset on, each behind those that are inserted at its offset; those of the end come last
abbrev pub words_from : List (ℕ × PatchedWord) → ℕ → List Word → List PatchedWord
words_from news offset [] = inserted_at offset news
words_from news offset (w ∷ ws) = inserted_at offset news ++ own offset w ∷ words_from news (offset + 4) ws

-- all words of a patched block
abbrev pub patched_words : CodeBlock → List PatchedWord
patched_words b = words_from (numbered 0 b.inserted) 0 b.own
