-- How words are cut, word by word.
use Rattle.std.proofs.Common.{◌≡◌, suc, ◌-◌, Bool, true, false, cond, List, [], ◌∷◌, ◌++◌, length, Option, refl, sym, ap, ◌∙◌, arith}
use Rattle.std.specs.Prelude.{slice_get}
use Rattle.std.specs.Option.{option_map_or}
use Rattle.std.proofs.lemmas.Bool.{cond-true, cond-false}
use Rattle.block_parts.specs.declared.words.PatchedWord.{PatchedWord}
use Rattle.taken_ids.specs.Cutting.{is_cut_behind, IsUncut}
use Rattle.block_parts.specs.Parts.{cut_words, is_cut, put_first}

-- behind words that aren't cut another part begins, where the next word is cut from them
pub cut_apart : (ws : List PatchedWord) (next : PatchedWord) (rest : List PatchedWord) → IsUncut ws → is_cut_behind ws next ≡ true → cut_words (ws ++ next ∷ rest) ≡ ws ∷ cut_words (next ∷ rest)
cut_apart [] next rest uncut h = absurd (cc)
cut_apart (w ∷ []) next rest uncut h = cond-true _ _ _ h
cut_apart (w ∷ v ∷ ws) next rest uncut h = cond-false _ _ _ uncut.0 ∙ ap (put_first w) (cut_apart (v ∷ ws) next rest uncut.1 h)

-- words that aren't cut are one part
pub cut_whole : (ws : List PatchedWord) → IsUncut ws → cut_words ws ≡ ws ∷ []
cut_whole [] uncut = refl
cut_whole (w ∷ []) uncut = refl
cut_whole (w ∷ v ∷ ws) uncut = cond-false _ _ _ uncut.0 ∙ ap (put_first w) (cut_whole (v ∷ ws) uncut.1)

-- one word more
pub uncut_more : (ws : List PatchedWord) (next : PatchedWord) → IsUncut ws → is_cut_behind ws next ≡ false → IsUncut (ws ++ next ∷ [])
uncut_more [] next uncut h = tt
uncut_more (w ∷ []) next uncut h = (h, tt)
uncut_more (w ∷ v ∷ ws) next uncut h = (uncut.0, uncut_more (v ∷ ws) next uncut.1 h)

-- the last of the words decides
pub cut_by_last : (ws : List PatchedWord) (next : PatchedWord) → option_map_or (λ w. is_cut w next) (slice_get ws (length ws - 1)) false ≡ is_cut_behind ws next
cut_by_last [] next = refl
cut_by_last (w ∷ []) next = refl
cut_by_last (w ∷ v ∷ ws) next =
    let e : length (w ∷ v ∷ ws) - 1 ≡ suc (length (v ∷ ws) - 1) = omega arith in
    ap (λ n. option_map_or (λ x. is_cut x next) (slice_get (w ∷ v ∷ ws) n) false) e ∙ cut_by_last (v ∷ ws) next
