-- The parts that a patched block is cut into.
use Rattle.std.specs.Prelude.{ℕ, ◌+◌, ◌*◌, Bool, ◌&&◌, ◌||◌, if◌then◌else◌, List, [], ◌∷◌, length}
use Rattle.sym_expr.specs.declared.program.CodeBlock.{CodeBlock}
use Rattle.sym_expr.specs.Patches.{is_control}
use Rattle.block_parts.specs.declared.parts.Part.{Part}
use Rattle.block_parts.specs.declared.words.PatchedWord.{PatchedWord}
use Rattle.block_parts.specs.Words.{is_inserted, patched_words}

-- a block is cut behind a control word that another follows, where one of the two is inserted
abbrev pub is_cut : PatchedWord → PatchedWord → Bool
is_cut w next = (is_inserted w || is_inserted next) && is_control w.word

-- a word in front of the first part
abbrev pub put_first : PatchedWord → List (List PatchedWord) → List (List PatchedWord)
put_first w [] = (w ∷ []) ∷ []
put_first w (part ∷ parts) = (w ∷ part) ∷ parts

-- the words of each part; without words there is one part
abbrev pub cut_words : List PatchedWord → List (List PatchedWord)
cut_words [] = [] ∷ []
cut_words (w ∷ []) = (w ∷ []) ∷ []
cut_words (w ∷ next ∷ rest) = if is_cut w next then (w ∷ []) ∷ cut_words (next ∷ rest) else put_first w (cut_words (next ∷ rest))

abbrev pub part : ℕ → List PatchedWord → Part
part start words = record { start = start; words = words }

-- parts one behind the other, from a start on
abbrev pub parts_from : ℕ → List (List PatchedWord) → List Part
parts_from start [] = []
parts_from start (words ∷ rest) = part start words ∷ parts_from (start + 4 * length words) rest

-- the parts of a block, each with its offset from the block's new start
abbrev pub parts : CodeBlock → List Part
parts b = parts_from 0 (cut_words (patched_words b))
