-- A block that is cut word by word: what each step does.
use Rattle.std.proofs.Common.{◌≡◌, ℕ, ◌+◌, ◌*◌, true, List, [], ◌∷◌, ◌++◌, length, sym, ap, ◌∙◌, append_assoc, append-nil}
use Rattle.taken_ids.specs.declared.cutting.Cutting.{Cutting}
use Rattle.block_parts.specs.declared.parts.Part.{Part}
use Rattle.block_parts.specs.declared.words.PatchedWord.{PatchedWord}
use Rattle.taken_ids.specs.Cutting.{all_parts, is_cut_behind, IsUncut}
use Rattle.block_parts.specs.Parts.{cut_words, part, parts_from}
use Rattle.taken_ids.proofs.Cuts.{cut_apart, cut_whole}

-- the words at hand end a part
pub ended : (c : Cutting) (whole : List Part) (own : List PatchedWord) (start : ℕ) (w : PatchedWord) (rest : List PatchedWord) → IsUncut c.own.items → is_cut_behind c.own.items w ≡ true
    → whole ≡ c.whole.items ++ part c.start c.own.items ∷ [] → own ≡ [] → start ≡ c.start + 4 * length c.own.items
    → whole ++ parts_from start (cut_words (own ++ w ∷ rest)) ≡ all_parts c (w ∷ rest)
ended c whole own start w rest uncut cut whole_is own_is start_is =
    let next : List Part = parts_from (c.start + 4 * length c.own.items) (cut_words (w ∷ rest)) in
    ap (λ (l : List Part). l ++ parts_from start (cut_words (own ++ w ∷ rest))) whole_is
    ∙ ap (λ (l : List PatchedWord). (c.whole.items ++ part c.start c.own.items ∷ []) ++ parts_from start (cut_words (l ++ w ∷ rest))) own_is
    ∙ ap (λ n. (c.whole.items ++ part c.start c.own.items ∷ []) ++ parts_from n (cut_words (w ∷ rest))) start_is
    ∙ append_assoc c.whole.items (part c.start c.own.items ∷ []) next
    ∙ ap (λ l. c.whole.items ++ parts_from c.start l) (sym (cut_apart c.own.items w rest uncut cut))

-- one word more at hand
pub added : (whole : List Part) (start : ℕ) (own : List PatchedWord) (w : PatchedWord) (rest : List PatchedWord)
    → whole ++ parts_from start (cut_words ((own ++ w ∷ []) ++ rest)) ≡ whole ++ parts_from start (cut_words (own ++ w ∷ rest))
added whole start own w rest = ap (λ l. whole ++ parts_from start (cut_words l)) (append_assoc own (w ∷ []) rest)

-- the words at hand are the last part
pub last_part : (whole : List Part) (start : ℕ) (own : List PatchedWord) → IsUncut own → whole ++ part start own ∷ [] ≡ whole ++ parts_from start (cut_words (own ++ []))
last_part whole start own uncut = ap (λ l. whole ++ parts_from start l) (sym (ap cut_words (append-nil own) ∙ cut_whole own uncut))
