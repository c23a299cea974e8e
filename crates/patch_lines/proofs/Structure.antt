-- What lines of which each has its place make.
use Rattle.std.proofs.Common.{◌≡◌, ◌≢◌, ◌⊎◌, inl, inr, ℕ, ◌+◌, ◌≤◌, Bool, true, false, cond, Option, Some, None, Result, Ok, Err, List, [], ◌∷◌, ◌++◌, length, refl, sym, ap, ◌∙◌, arith}
use Rattle.std.specs.Prelude.{filter}
use Rattle.std.specs.List.{AllByRecursion, flat_map}
use Rattle.std.proofs.lemmas.List.{append_assoc, length-append}
use Rattle.gt_model.specs.declared.modules.Module.{Module}
use Rattle.sym_expr.specs.declared.patches.FunLine.{FunLine}
use Rattle.sym_expr.specs.declared.patches.Function.{Function}
use Rattle.sym_expr.specs.declared.patches.Insert.{Insert}
use Rattle.sym_expr.specs.declared.patches.PatchWord.{PatchWord}
use Rattle.sym_expr.specs.TableOk.{function_words, line_labels, line_words}
use Rattle.patch_lines.specs.declared.fault.PatchReason.{PatchReason}
use Rattle.patch_lines.specs.declared.line.PatchLine.{PatchLine}
use Rattle.patch_lines.specs.declared.line.PatchLine.TheVariants as lines
use Rattle.patch_lines.specs.declared.place.Place.{Place}
use Rattle.patch_lines.specs.declared.place.Place.TheVariants as places
use Rattle.patch_lines.specs.Building.{body_parts, body_words, functions_in, insert_of, inserts_in, word_of}
use Rattle.patch_lines.specs.Faults.{insert_block, is_word, names_in, words_in}
use Rattle.patch_lines.specs.Places.{after, has_place, is_outside}

-- each line may stand where it does, and the last leads outside
abbrev pub Placed : Place → List PatchLine → Type 0
Placed p [] = is_outside p ≡ true
Placed p (l ∷ ls) = (has_place p l ≡ true) × Placed (after p l) ls

-- behind the first line of an insert or a function stands a word
pub has_body : (m : Module) (f : List ℕ → Bool) (p : Place) (ls : List PatchLine) → Placed p ls → (p ≡ places.EmptyInsert) ⊎ (p ≡ places.EmptyFunction) → body_words m f ls ≢ []
has_body m f places.Outside ls placed e = elim e [ inl x ↦ cc | inr x ↦ cc ]
has_body m f places.Insert ls placed e = elim e [ inl x ↦ cc | inr x ↦ cc ]
has_body m f places.Function ls placed e = elim e [ inl x ↦ cc | inr x ↦ cc ]
has_body m f places.EmptyInsert [] placed e = cc
has_body m f places.EmptyInsert (lines.Blank ∷ ls) placed e = has_body m f places.EmptyInsert ls placed.1 e
has_body m f places.EmptyInsert (lines.Insert spot offset ∷ ls) placed e = let no = placed.0 in cc
has_body m f places.EmptyInsert (lines.Function name ∷ ls) placed e = let no = placed.0 in cc
has_body m f places.EmptyInsert (lines.Label name ∷ ls) placed e = let no = placed.0 in cc
has_body m f places.EmptyInsert (lines.Word word sum ∷ ls) placed e = λ empty. cc
has_body m f places.EmptyInsert (lines.End ∷ ls) placed e = let no = placed.0 in cc
has_body m f places.EmptyInsert (lines.UnfitInsert ∷ ls) placed e = let no = placed.0 in cc
has_body m f places.EmptyInsert (lines.UnfitWord ∷ ls) placed e = has_body m f places.EmptyInsert ls placed.1 e
has_body m f places.EmptyInsert (lines.Other ∷ ls) placed e = let no = placed.0 in cc
has_body m f places.EmptyFunction [] placed e = cc
has_body m f places.EmptyFunction (lines.Blank ∷ ls) placed e = has_body m f places.EmptyFunction ls placed.1 e
has_body m f places.EmptyFunction (lines.Insert spot offset ∷ ls) placed e = let no = placed.0 in cc
has_body m f places.EmptyFunction (lines.Function name ∷ ls) placed e = let no = placed.0 in cc
has_body m f places.EmptyFunction (lines.Label name ∷ ls) placed e = has_body m f places.EmptyFunction ls placed.1 e
has_body m f places.EmptyFunction (lines.Word word sum ∷ ls) placed e = λ empty. cc
has_body m f places.EmptyFunction (lines.End ∷ ls) placed e = let no = placed.0 in cc
has_body m f places.EmptyFunction (lines.UnfitInsert ∷ ls) placed e = let no = placed.0 in cc
has_body m f places.EmptyFunction (lines.UnfitWord ∷ ls) placed e = has_body m f places.EmptyFunction ls placed.1 e
has_body m f places.EmptyFunction (lines.Other ∷ ls) placed e = let no = placed.0 in cc

-- the words of a function's body are those up to its end
pub parts_words : (m : Module) (f : List ℕ → Bool) (ls : List PatchLine) → flat_map line_words (body_parts m f ls) ≡ body_words m f ls
parts_words m f [] = refl
parts_words m f (lines.Blank ∷ ls) = parts_words m f ls
parts_words m f (lines.Insert spot offset ∷ ls) = parts_words m f ls
parts_words m f (lines.Function name ∷ ls) = parts_words m f ls
parts_words m f (lines.Label name ∷ ls) = parts_words m f ls
parts_words m f (lines.Word word sum ∷ ls) = ap (λ ws. word_of m f word sum ∷ ws) (parts_words m f ls)
parts_words m f (lines.End ∷ ls) = refl
parts_words m f (lines.UnfitInsert ∷ ls) = parts_words m f ls
parts_words m f (lines.UnfitWord ∷ ls) = parts_words m f ls
parts_words m f (lines.Other ∷ ls) = parts_words m f ls

-- ---- names

abbrev labels_of : List FunLine → List (List ℕ)
labels_of parts = flat_map line_labels parts

abbrev function_names : List Function → List (List ℕ)
function_names fs = flat_map (λ (g : Function). g.name ∷ labels_of g.body) fs

-- the labels up to the end of the function in which the lines stand
abbrev labels_ahead : Module → (List ℕ → Bool) → Place → List PatchLine → List (List ℕ)
labels_ahead m f places.EmptyFunction ls = labels_of (body_parts m f ls)
labels_ahead m f places.Function ls = labels_of (body_parts m f ls)
labels_ahead m f places.Outside ls = []
labels_ahead m f places.EmptyInsert ls = []
labels_ahead m f places.Insert ls = []

abbrev NamesOf : Module → (List ℕ → Bool) → Place → List PatchLine → Type 0
NamesOf m f p ls = labels_ahead m f p ls ++ function_names (functions_in m f ls) ≡ names_in ls

names_of : (m : Module) (f : List ℕ → Bool) (p : Place) (ls : List PatchLine) → Placed p ls → NamesOf m f p ls
names_of m f places.Outside [] placed = refl
names_of m f places.EmptyInsert [] placed = refl
names_of m f places.Insert [] placed = refl
names_of m f places.EmptyFunction [] placed = refl
names_of m f places.Function [] placed = refl
names_of m f places.Outside (lines.Blank ∷ ls) placed = names_of m f places.Outside ls placed.1
names_of m f places.EmptyInsert (lines.Blank ∷ ls) placed = names_of m f places.EmptyInsert ls placed.1
names_of m f places.Insert (lines.Blank ∷ ls) placed = names_of m f places.Insert ls placed.1
names_of m f places.EmptyFunction (lines.Blank ∷ ls) placed = names_of m f places.EmptyFunction ls placed.1
names_of m f places.Function (lines.Blank ∷ ls) placed = names_of m f places.Function ls placed.1
names_of m f places.Outside (lines.Insert spot offset ∷ ls) placed = names_of m f places.EmptyInsert ls placed.1
names_of m f places.EmptyInsert (lines.Insert spot offset ∷ ls) placed = let no = placed.0 in cc
names_of m f places.Insert (lines.Insert spot offset ∷ ls) placed = let no = placed.0 in cc
names_of m f places.EmptyFunction (lines.Insert spot offset ∷ ls) placed = let no = placed.0 in cc
names_of m f places.Function (lines.Insert spot offset ∷ ls) placed = let no = placed.0 in cc
names_of m f places.Outside (lines.Function name ∷ ls) placed = ap (λ ns. name ∷ ns) (names_of m f places.EmptyFunction ls placed.1)
names_of m f places.EmptyInsert (lines.Function name ∷ ls) placed = let no = placed.0 in cc
names_of m f places.Insert (lines.Function name ∷ ls) placed = let no = placed.0 in cc
names_of m f places.EmptyFunction (lines.Function name ∷ ls) placed = let no = placed.0 in cc
names_of m f places.Function (lines.Function name ∷ ls) placed = let no = placed.0 in cc
names_of m f places.Outside (lines.Label name ∷ ls) placed = let no = placed.0 in cc
names_of m f places.EmptyInsert (lines.Label name ∷ ls) placed = let no = placed.0 in cc
names_of m f places.Insert (lines.Label name ∷ ls) placed = let no = placed.0 in cc
names_of m f places.EmptyFunction (lines.Label name ∷ ls) placed = ap (λ ns. name ∷ ns) (names_of m f places.EmptyFunction ls placed.1)
names_of m f places.Function (lines.Label name ∷ ls) placed = ap (λ ns. name ∷ ns) (names_of m f places.Function ls placed.1)
names_of m f places.Outside (lines.Word word sum ∷ ls) placed = let no = placed.0 in cc
names_of m f places.EmptyInsert (lines.Word word sum ∷ ls) placed = names_of m f places.Insert ls placed.1
names_of m f places.Insert (lines.Word word sum ∷ ls) placed = names_of m f places.Insert ls placed.1
names_of m f places.EmptyFunction (lines.Word word sum ∷ ls) placed = names_of m f places.Function ls placed.1
names_of m f places.Function (lines.Word word sum ∷ ls) placed = names_of m f places.Function ls placed.1
names_of m f places.Outside (lines.End ∷ ls) placed = let no = placed.0 in cc
names_of m f places.EmptyInsert (lines.End ∷ ls) placed = let no = placed.0 in cc
names_of m f places.Insert (lines.End ∷ ls) placed = names_of m f places.Outside ls placed.1
names_of m f places.EmptyFunction (lines.End ∷ ls) placed = let no = placed.0 in cc
names_of m f places.Function (lines.End ∷ ls) placed = names_of m f places.Outside ls placed.1
names_of m f places.Outside (lines.UnfitInsert ∷ ls) placed = names_of m f places.Outside ls placed.1
names_of m f places.EmptyInsert (lines.UnfitInsert ∷ ls) placed = let no = placed.0 in cc
names_of m f places.Insert (lines.UnfitInsert ∷ ls) placed = let no = placed.0 in cc
names_of m f places.EmptyFunction (lines.UnfitInsert ∷ ls) placed = let no = placed.0 in cc
names_of m f places.Function (lines.UnfitInsert ∷ ls) placed = let no = placed.0 in cc
names_of m f places.Outside (lines.UnfitWord ∷ ls) placed = let no = placed.0 in cc
names_of m f places.EmptyInsert (lines.UnfitWord ∷ ls) placed = names_of m f places.EmptyInsert ls placed.1
names_of m f places.Insert (lines.UnfitWord ∷ ls) placed = names_of m f places.Insert ls placed.1
names_of m f places.EmptyFunction (lines.UnfitWord ∷ ls) placed = names_of m f places.EmptyFunction ls placed.1
names_of m f places.Function (lines.UnfitWord ∷ ls) placed = names_of m f places.Function ls placed.1
names_of m f places.Outside (lines.Other ∷ ls) placed = let no = placed.0 in cc
names_of m f places.EmptyInsert (lines.Other ∷ ls) placed = let no = placed.0 in cc
names_of m f places.Insert (lines.Other ∷ ls) placed = let no = placed.0 in cc
names_of m f places.EmptyFunction (lines.Other ∷ ls) placed = let no = placed.0 in cc
names_of m f places.Function (lines.Other ∷ ls) placed = let no = placed.0 in cc

pub all_names : (m : Module) (f : List ℕ → Bool) (ls : List PatchLine) → Placed places.Outside ls → function_names (functions_in m f ls) ≡ names_in ls
all_names m f ls placed = names_of m f places.Outside ls placed
