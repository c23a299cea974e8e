-- The words of a block and of its parts.
use Rattle.std.proofs.Common.{◌≡◌, ℕ, suc, ◌+◌, ◌*◌, Bool, true, false, List, [], ◌∷◌, ◌++◌, length, refl, ap, ◌∙◌, arith}
use Rattle.std.specs.Prelude.{◌&&◌, ◌||◌, if◌then◌else◌}
use Rattle.std.specs.List.{flat_map, AllByRecursion as Every}
use Rattle.block_parts.specs.declared.parts.Part.{Part}
use Rattle.block_parts.specs.declared.words.PatchedWord.{PatchedWord}
use Rattle.block_parts.specs.Parts.{is_cut, put_first, cut_words, part, parts_from, parts}
use Rattle.block_parts.specs.Words.{is_inserted, numbered, words_from, patched_words, own}
use Rattle.sym_expr.specs.declared.program.CodeBlock.{CodeBlock}
use Rattle.sym_expr.specs.declared.program.Word.{Word}

-- all words of several lists
abbrev pub all_of : List (List PatchedWord) → List PatchedWord
all_of ps = flat_map (λ (words : List PatchedWord). words) ps

put_all : (w : PatchedWord) (ps : List (List PatchedWord)) → all_of (put_first w ps) ≡ w ∷ all_of ps
put_all w [] = refl
put_all w (part ∷ ps) = refl

either_all : (w : PatchedWord) (x : Bool) (ps : List (List PatchedWord)) → all_of (if x then (w ∷ []) ∷ ps else put_first w ps) ≡ w ∷ all_of ps
either_all w true ps = refl
either_all w false ps = put_all w ps

pub cut_all : (ws : List PatchedWord) → all_of (cut_words ws) ≡ ws
cut_all [] = refl
cut_all (w ∷ []) = refl
cut_all (w ∷ next ∷ rest) = either_all w (is_cut w next) (cut_words (next ∷ rest)) ∙ ap (λ l. w ∷ l) (cut_all (next ∷ rest))

pub parts_all : (start : ℕ) (ps : List (List PatchedWord)) → flat_map (λ (q : Part). q.words) (parts_from start ps) ≡ all_of ps
parts_all start [] = refl
parts_all start (words ∷ rest) = ap (λ l. words ++ l) (parts_all (start + 4 * length words) rest)

pub joined : (b : CodeBlock) → flat_map (λ (q : Part). q.words) (parts b) ≡ patched_words b
joined b = parts_all 0 (cut_words (patched_words b)) ∙ cut_all (patched_words b)

-- ---- where nothing is inserted

abbrev pub IsOwn : PatchedWord → Type 0
IsOwn w = is_inserted w ≡ false

not_cut : (w next : PatchedWord) → IsOwn w → IsOwn next → is_cut w next ≡ false
not_cut w next h k = rw (h, k) refl

one_part : (ws : List PatchedWord) → Every IsOwn ws → cut_words ws ≡ ws ∷ []
one_part [] h = refl
one_part (w ∷ []) h = refl
one_part (w ∷ next ∷ rest) h =
    ap (λ x. if x then (w ∷ []) ∷ cut_words (next ∷ rest) else put_first w (cut_words (next ∷ rest))) (not_cut w next h.0 h.1.0)
    ∙ ap (put_first w) (one_part (next ∷ rest) h.1)

all_own : (at : ℕ) (ws : List Word) → Every IsOwn (words_from [] at ws)
all_own at [] = tt
all_own at (w ∷ ws) = (refl, all_own (at + 4) ws)

cons_not : {X : Type 0} (x : X) (xs : List X) → x ∷ xs ≡ [] → ⊥
cons_not x xs e = grind (arith, e)

all_own_of : (ins : List (ℕ × Word)) (at : ℕ) (ws : List Word) → ins ≡ [] → Every IsOwn (words_from (numbered 0 ins) at ws)
all_own_of [] at ws none = all_own at ws
all_own_of (x ∷ xs) at ws none = absurd (cons_not x xs none)

pub whole : (b : CodeBlock) → b.inserted ≡ [] → parts b ≡ part 0 (patched_words b) ∷ []
whole b none = ap (parts_from 0) (one_part (patched_words b) (all_own_of b.inserted 0 b.own none))
