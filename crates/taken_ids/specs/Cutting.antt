-- A block that is cut word by word.
use Rattle.std.specs.Prelude.{◌≡◌, Bool, false, List, [], ◌∷◌, ◌++◌}
use Rattle.taken_ids.specs.declared.cutting.Cutting.{Cutting}
use Rattle.block_parts.specs.declared.parts.Part.{Part}
use Rattle.block_parts.specs.declared.words.PatchedWord.{PatchedWord}
use Rattle.block_parts.specs.Parts.{is_cut, cut_words, parts_from}

-- these words, and one that follows, are cut in between
abbrev pub is_cut_behind : List PatchedWord → PatchedWord → Bool
is_cut_behind [] next = false
is_cut_behind (w ∷ []) next = is_cut w next
is_cut_behind (w ∷ v ∷ rest) next = is_cut_behind (v ∷ rest) next

-- these words aren't cut
abbrev pub IsUncut : List PatchedWord → Type 0
IsUncut [] = Unit {0}
IsUncut (w ∷ []) = Unit {0}
IsUncut (w ∷ v ∷ rest) = (is_cut w v ≡ false) × IsUncut (v ∷ rest)

-- all parts: those that are whole, and those that come of the words at hand and of the ones that follow
abbrev pub all_parts : Cutting → List PatchedWord → List Part
all_parts c rest = c.whole.items ++ parts_from c.start (cut_words (c.own.items ++ rest))
