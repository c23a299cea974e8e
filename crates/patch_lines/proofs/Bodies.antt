-- What inserts and functions are made of.
use Rattle.std.proofs.Common.{◌≡◌, ◌≢◌, ◌⊎◌, inl, inr, ℕ, suc, ◌+◌, ◌≤◌, Bool, true, false, not, cond, Option, Some, None, Result, Ok, Err, List, [], ◌∷◌, ◌++◌, length, refl, sym, ap, subst, ◌∙◌, arith}
use Rattle.std.specs.List.{AllByRecursion, flat_map}
use Rattle.std.proofs.lemmas.Grind.{flat_map-append}
use Rattle.std.proofs.lemmas.List.{append_assoc, length-append}
use Rattle.gt_model.specs.declared.modules.Module.{Module}
use Rattle.sym_expr.specs.declared.patches.FunLine.{FunLine}
use Rattle.sym_expr.specs.declared.patches.Function.{Function}
use Rattle.sym_expr.specs.declared.patches.Insert.{Insert}
use Rattle.sym_expr.specs.declared.patches.PatchWord.{PatchWord}
use Rattle.sym_expr.specs.TableOk.{function_words, line_words}
use Rattle.patch_lines.specs.declared.fault.PatchReason.{PatchReason}
use Rattle.patch_lines.specs.declared.line.PatchLine.{PatchLine}
use Rattle.patch_lines.specs.declared.line.PatchLine.TheVariants as lines
use Rattle.patch_lines.specs.declared.line.Spot.{Spot}
use Rattle.patch_lines.specs.declared.place.Place.{Place}
use Rattle.patch_lines.specs.declared.place.Place.TheVariants as places
use Rattle.patch_lines.specs.Building.{body_parts, body_words, functions_at, functions_in, insert_of, inserts_at, inserts_in, is_end, word_of, words_of_line}
use Rattle.patch_lines.specs.Faults.{insert_block, is_word, words_in}
use Rattle.patch_lines.specs.Places.{after, filled, has_place, is_outside}
use Rattle.patch_lines.proofs.Every.{every_append, every_cond, every_flat}
use Rattle.patch_lines.proofs.Structure.{Placed, has_body, parts_words}

abbrev insert_at : ℕ → List PatchWord → List ℕ → Insert
insert_at offset body id = record { block = id; offset = offset; body = body }

abbrev function_at : List ℕ → List FunLine → Function
function_at name body = record { name = name; body = body }

-- ---- what a line begins

made : (P : Insert → Type 0) (offset : ℕ) (body : List PatchWord) (r : Result (List ℕ) PatchReason) → ((id : List ℕ) → r ≡ Ok id → P (insert_at offset body id)) → AllByRecursion P (insert_of offset body r)
made P offset body (Ok id) h = (h id refl, tt)
made P offset body (Err reason) h = tt

module _ (m : Module) (f : List ℕ → Bool) where
  inserts_at_all : (P : Insert → Type 0) (l : PatchLine) (ls : List PatchLine)
      → ((spot : Spot) (offset : ℕ) (id : List ℕ) → l ≡ lines.Insert spot offset → insert_block m spot offset ≡ Ok id → P (insert_at offset (body_words m f ls) id)) → AllByRecursion P (inserts_at m f l ls)
  inserts_at_all P lines.Blank ls h = tt
  inserts_at_all P (lines.Insert spot offset) ls h = made P offset (body_words m f ls) (insert_block m spot offset) (λ id e. h spot offset id refl e)
  inserts_at_all P (lines.Function name) ls h = tt
  inserts_at_all P (lines.Label name) ls h = tt
  inserts_at_all P (lines.Word word sum) ls h = tt
  inserts_at_all P lines.End ls h = tt
  inserts_at_all P lines.UnfitInsert ls h = tt
  inserts_at_all P lines.UnfitWord ls h = tt
  inserts_at_all P lines.Other ls h = tt

  functions_at_all : (P : Function → Type 0) (l : PatchLine) (ls : List PatchLine)
      → ((name : List ℕ) → l ≡ lines.Function name → P (function_at name (body_parts m f ls))) → AllByRecursion P (functions_at m f l ls)
  functions_at_all P lines.Blank ls h = tt
  functions_at_all P (lines.Insert spot offset) ls h = tt
  functions_at_all P (lines.Function name) ls h = (h name refl, tt)
  functions_at_all P (lines.Label name) ls h = tt
  functions_at_all P (lines.Word word sum) ls h = tt
  functions_at_all P lines.End ls h = tt
  functions_at_all P lines.UnfitInsert ls h = tt
  functions_at_all P lines.UnfitWord ls h = tt
  functions_at_all P lines.Other ls h = tt

  -- each insert is made of a line of the list and has a word
  pub inserts_all : (P : Insert → Type 0) (T : PatchLine → Type 0) (p : Place) (ls : List PatchLine)
      → ((spot : Spot) (offset : ℕ) (id : List ℕ) (body : List PatchWord) → T (lines.Insert spot offset) → insert_block m spot offset ≡ Ok id → body ≢ [] → P (insert_at offset body id))
      → AllByRecursion T ls → Placed p ls → AllByRecursion P (inserts_in m f ls)
  inserts_all P T p [] h each placed = tt
  inserts_all P T p (l ∷ ls) h each placed =
      every_append P (inserts_at m f l ls) (inserts_in m f ls)
      (inserts_at_all P l ls (λ spot offset id is found. h spot offset id (body_words m f ls) (subst T is each.0) found
      (has_body m f places.EmptyInsert ls (subst (λ x. Placed (after p x) ls) is placed.1) (inl refl))))
      (inserts_all P T (after p l) ls h each.1 placed.1)

  -- each function has a word
  pub functions_all : (p : Place) (ls : List PatchLine) → Placed p ls → AllByRecursion (λ (g : Function). function_words g ≢ []) (functions_in m f ls)
  functions_all p [] placed = tt
  functions_all p (l ∷ ls) placed =
      every_append (λ (g : Function). function_words g ≢ []) (functions_at m f l ls) (functions_in m f ls)
      (functions_at_all (λ (g : Function). function_words g ≢ []) l ls (λ name is.
      subst (λ ws. ws ≢ []) (sym (parts_words m f ls)) (has_body m f places.EmptyFunction ls (subst (λ x. Placed (after p x) ls) is placed.1) (inr refl))))
      (functions_all (after p l) ls placed.1)

  -- ---- words

  body_all : (Q : PatchWord → Type 0) (ls : List PatchLine) → AllByRecursion (λ l. AllByRecursion Q (words_of_line m f l)) ls → AllByRecursion Q (body_words m f ls)
  body_all Q [] each = tt
  body_all Q (l ∷ ls) each = every_cond Q (is_end l) (words_of_line m f l ++ body_words m f ls) (every_append Q (words_of_line m f l) (body_words m f ls) each.0 (body_all Q ls each.1))

  inserts_words : (Q : PatchWord → Type 0) (ls : List PatchLine) → AllByRecursion (λ l. AllByRecursion Q (words_of_line m f l)) ls → AllByRecursion (λ (i : Insert). AllByRecursion Q i.body) (inserts_in m f ls)
  inserts_words Q [] each = tt
  inserts_words Q (l ∷ ls) each =
      every_append (λ (i : Insert). AllByRecursion Q i.body) (inserts_at m f l ls) (inserts_in m f ls)
      (inserts_at_all (λ (i : Insert). AllByRecursion Q i.body) l ls (λ spot offset id is found. body_all Q ls each.1))
      (inserts_words Q ls each.1)

  functions_words : (Q : PatchWord → Type 0) (ls : List PatchLine) → AllByRecursion (λ l. AllByRecursion Q (words_of_line m f l)) ls → AllByRecursion (λ (g : Function). AllByRecursion Q (function_words g)) (functions_in m f ls)
  functions_words Q [] each = tt
  functions_words Q (l ∷ ls) each =
      every_append (λ (g : Function). AllByRecursion Q (function_words g)) (functions_at m f l ls) (functions_in m f ls)
      (functions_at_all (λ (g : Function). AllByRecursion Q (function_words g)) l ls (λ name is. subst (AllByRecursion Q) (sym (parts_words m f ls)) (body_all Q ls each.1)))
      (functions_words Q ls each.1)

  pub all_words : (Q : PatchWord → Type 0) (ls : List PatchLine) → AllByRecursion (λ l. AllByRecursion Q (words_of_line m f l)) ls
      → AllByRecursion Q (flat_map (λ (i : Insert). i.body) (inserts_in m f ls) ++ flat_map function_words (functions_in m f ls))
  all_words Q ls each =
      every_append Q (flat_map (λ (i : Insert). i.body) (inserts_in m f ls)) (flat_map function_words (functions_in m f ls))
      (every_flat Q (λ (i : Insert). i.body) (inserts_in m f ls) (inserts_words Q ls each))
      (every_flat Q function_words (functions_in m f ls) (functions_words Q ls each))

-- ---- how many words

abbrev insert_total : List Insert → ℕ
insert_total is = length (flat_map (λ (i : Insert). i.body) is)

abbrev function_total : List Function → ℕ
function_total gs = length (flat_map function_words gs)

-- the words up to the end of the insert or function in which the lines stand
abbrev ahead : Module → (List ℕ → Bool) → Bool → List PatchLine → ℕ
ahead m f outside ls = cond outside 0 (length (body_words m f ls))

none_ahead : (b : Bool) → cond b 0 0 ≤ 0
none_ahead true = omega arith
none_ahead false = omega arith

insert_counts : (offset : ℕ) (body : List PatchWord) (r : Result (List ℕ) PatchReason) (is : List Insert) → insert_total (insert_of offset body r ++ is) ≤ length body + insert_total is
insert_counts offset body (Ok id) is = let both = length-append body (flat_map (λ (i : Insert). i.body) is) in omega arith
insert_counts offset body (Err reason) is = omega arith

filled_inside : (p : Place) → not (is_outside p) ≡ true → (is_outside p ≡ false) × (is_outside (filled p) ≡ false)
filled_inside places.Outside h = cc
filled_inside places.EmptyInsert h = (refl, refl)
filled_inside places.Insert h = (refl, refl)
filled_inside places.EmptyFunction h = (refl, refl)
filled_inside places.Function h = (refl, refl)

count_of : (m : Module) (f : List ℕ → Bool) (p : Place) (ls : List PatchLine) → Placed p ls
    → ahead m f (is_outside p) ls + (insert_total (inserts_in m f ls) + function_total (functions_in m f ls)) ≤ words_in ls
count_of m f p [] placed = let none = none_ahead (is_outside p) in omega arith
count_of m f p (lines.Blank ∷ ls) placed = count_of m f p ls placed.1
count_of m f p (lines.Insert spot offset ∷ ls) placed =
    let rest = count_of m f places.EmptyInsert ls placed.1 in
    let none : ahead m f (is_outside p) (lines.Insert spot offset ∷ ls) ≡ 0 = ap (λ b. ahead m f b (lines.Insert spot offset ∷ ls)) placed.0 in
    let here = insert_counts offset (body_words m f ls) (insert_block m spot offset) (inserts_in m f ls) in
    omega arith
count_of m f p (lines.Function name ∷ ls) placed =
    let rest = count_of m f places.EmptyFunction ls placed.1 in
    let none : ahead m f (is_outside p) (lines.Function name ∷ ls) ≡ 0 = ap (λ b. ahead m f b (lines.Function name ∷ ls)) placed.0 in
    let both = length-append (flat_map line_words (body_parts m f ls)) (flat_map function_words (functions_in m f ls)) in
    let same = ap length (parts_words m f ls) in
    omega arith
count_of m f p (lines.Label name ∷ ls) placed = count_of m f p ls placed.1
count_of m f p (lines.Word word sum ∷ ls) placed =
    let inside = filled_inside p placed.0 in
    let rest = count_of m f (filled p) ls placed.1 in
    let here : ahead m f (is_outside p) (lines.Word word sum ∷ ls) ≡ suc (length (body_words m f ls)) = ap (λ b. ahead m f b (lines.Word word sum ∷ ls)) inside.0 in
    let there : ahead m f (is_outside (filled p)) ls ≡ length (body_words m f ls) = ap (λ b. ahead m f b ls) inside.1 in
    omega arith
count_of m f p (lines.End ∷ ls) placed = let rest = count_of m f places.Outside ls placed.1 in let none = none_ahead (is_outside p) in omega arith
count_of m f p (lines.UnfitInsert ∷ ls) placed = count_of m f p ls placed.1
count_of m f p (lines.UnfitWord ∷ ls) placed = count_of m f p ls placed.1
count_of m f p (lines.Other ∷ ls) placed = let no = placed.0 in cc

pub counted : (m : Module) (f : List ℕ → Bool) (ls : List PatchLine) → Placed places.Outside ls
    → length (flat_map (λ (i : Insert). i.body) (inserts_in m f ls) ++ flat_map function_words (functions_in m f ls)) ≤ words_in ls
counted m f ls placed =
    let all = count_of m f places.Outside ls placed in
    let both = length-append (flat_map (λ (i : Insert). i.body) (inserts_in m f ls)) (flat_map function_words (functions_in m f ls)) in
    omega arith
