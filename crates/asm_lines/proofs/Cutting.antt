-- A word, cut behind its commas byte by byte.
use Rattle.std.proofs.Common.{◌≡◌, ℕ, ◌+◌, ◌<◌, Bool, true, false, cond, List, [], ◌∷◌, ◌++◌, length, get_or, drop, refl, sym, ap, ◌∙◌, append_assoc, add-one, drop-cons}
use Rattle.std.specs.List.{flat_map}
use Rattle.std.proofs.lemmas.List.{append-nil}
use Rattle.asm_read.specs.Words.{before_first}
use Rattle.asm_lines.specs.declared.cut.Place.{Place}
use Rattle.asm_lines.specs.Texts.{after, cut, cut_from, ends_text, with_text}

front_of_front : (a b : List ℕ) (ts : List (List ℕ)) → before_first a (before_first b ts) ≡ before_first (a ++ b) ts
front_of_front a b [] = refl
front_of_front a b (t ∷ ts) = ap (λ (x : List ℕ). x ∷ ts) (sym (append_assoc a b t))

longer : (text : List ℕ) (b : ℕ) (ts : List (List ℕ)) → with_text text (before_first (b ∷ []) ts) ≡ with_text (text ++ b ∷ []) ts
longer [] b ts = refl
longer (c ∷ text) b ts = front_of_front (c ∷ text) (b ∷ []) ts

ended : (text : List ℕ) (b : ℕ) (ts : List (List ℕ)) → with_text text ((b ∷ []) ∷ ts) ≡ (text ++ b ∷ []) ∷ ts
ended [] b ts = refl
ended (c ∷ text) b ts = refl

-- the texts found, the one begun, and those of what is left
abbrev pub AreCut : (whole texts : List (List ℕ)) → (text : List ℕ) → Place → (rest : List ℕ) → Type 0
AreCut whole texts text place rest = whole ≡ texts ++ with_text text (cut_from place rest)

by_test : (g : Bool) (text : List ℕ) (b : ℕ) (ts : List (List ℕ)) → g ≡ false → with_text text (cond g ((b ∷ []) ∷ ts) (before_first (b ∷ []) ts)) ≡ with_text (text ++ b ∷ []) ts
by_test true text b ts e = cc
by_test false text b ts e = longer text b ts

by_end : (g : Bool) (text : List ℕ) (b : ℕ) (ts : List (List ℕ)) → g ≡ true → with_text text (cond g ((b ∷ []) ∷ ts) (before_first (b ∷ []) ts)) ≡ (text ++ b ∷ []) ∷ ts
by_end true text b ts e = ended text b ts
by_end false text b ts e = cc

pub cut_goes_on : (whole texts : List (List ℕ)) (text rest behind new : List ℕ) (place : Place) (b : ℕ) → AreCut whole texts text place rest → rest ≡ b ∷ behind → new ≡ text ++ b ∷ [] → ends_text place b ≡ false → AreCut whole texts new (after place b) behind
cut_goes_on whole texts text rest behind new place b h e n test =
    h ∙ ap (λ (r : List ℕ). texts ++ with_text text (cut_from place r)) e
    ∙ ap (λ (ts : List (List ℕ)). texts ++ ts) (by_test (ends_text place b) text b (cut_from (after place b) behind) test)
    ∙ ap (λ (t : List ℕ). texts ++ with_text t (cut_from (after place b) behind)) (sym n)

pub cut_ends : (whole texts more : List (List ℕ)) (text rest behind new : List ℕ) (place : Place) (b : ℕ) → AreCut whole texts text place rest → rest ≡ b ∷ behind → new ≡ text ++ b ∷ [] → ends_text place b ≡ true → more ≡ texts ++ new ∷ [] → AreCut whole more [] (after place b) behind
cut_ends whole texts more text rest behind new place b h e n test m =
    h ∙ ap (λ (r : List ℕ). texts ++ with_text text (cut_from place r)) e
    ∙ ap (λ (ts : List (List ℕ)). texts ++ ts) (by_end (ends_text place b) text b (cut_from (after place b) behind) test)
    ∙ ap (λ (t : List ℕ). texts ++ t ∷ cut_from (after place b) behind) (sym n)
    ∙ sym (append_assoc texts (new ∷ []) (cut_from (after place b) behind))
    ∙ ap (λ (ts : List (List ℕ)). ts ++ cut_from (after place b) behind) (sym m)

pub with_some : (text : List ℕ) → (text ≡ [] → ⊥) → with_text text [] ≡ text ∷ []
with_some [] some = absurd (some refl)
with_some (b ∷ text) some = refl

pub without : (text : List ℕ) (texts : List (List ℕ)) → text ≡ [] → texts ≡ texts ++ with_text text []
without text texts e = sym (append-nil texts) ∙ ap (λ (t : List ℕ). texts ++ with_text t []) (sym e)

-- ---- what is left of a list, from its next element on

pub next_byte : (bytes : List ℕ) (i b : ℕ) → i < length bytes → b ≡ get_or bytes i 0 → drop i bytes ≡ b ∷ drop (i + 1) bytes
next_byte bytes i b h e = rw (e, add-one, drop-cons bytes i 0)

pub next_word : (words : List (List ℕ)) (i : ℕ) (w : List ℕ) → i < length words → w ≡ get_or words i w → drop i words ≡ w ∷ drop (i + 1) words
next_word words i w h e = let first : drop i words ≡ get_or words i w ∷ drop (i + 1) words = rw (add-one, drop-cons words i w) in first ∙ ap (λ (x : List ℕ). x ∷ drop (i + 1) words) (sym e)

pub words_go_on : (whole texts new words : List (List ℕ)) (i : ℕ) (w : List ℕ) → whole ≡ texts ++ flat_map cut (drop i words) → drop i words ≡ w ∷ drop (i + 1) words → new ≡ texts ++ cut w → whole ≡ new ++ flat_map cut (drop (i + 1) words)
words_go_on whole texts new words i w h e n =
    h ∙ ap (λ (ws : List (List ℕ)). texts ++ flat_map cut ws) e
    ∙ sym (append_assoc texts (cut w) (flat_map cut (drop (i + 1) words)))
    ∙ ap (λ (ts : List (List ℕ)). ts ++ flat_map cut (drop (i + 1) words)) (sym n)
