-- What is found in tables, and in one table more.
use Rattle.std.proofs.Common.{◌≡◌, ℕ, Bool, true, false, cond, List, [], ◌∷◌, ◌++◌, Option, None, Some, refl, sym, ap, ◌∙◌}
use Rattle.std.specs.Prelude.{find}
use Rattle.std.specs.Option.{option_map, option_or}
use Rattle.std.proofs.lemmas.List.{map-append}
use Rattle.std.proofs.lemmas.List.Folds.{find-append}
use Rattle.aux_codec.specs.declared.value.Place.{Place}
use Rattle.aux_tables.specs.Found.{IsFound, is_alignment, is_sizes, numbers_at, places_held, sizes_at, entries_of}
use Rattle.aux_tables.specs.declared.found.Found.{Found}
use Rattle.gt_model.specs.declared.tables.Aux.{Aux}

mapped_or : {A B : Type 0} (f : A → B) (o p : Option A) → option_map f (option_or o p) ≡ option_or (option_map f o) (option_map f p)
mapped_or f None p = refl
mapped_or f (Some x) p = refl

mapped_cond : {A B : Type 0} (f : A → B) (t : Bool) (x : A) → option_map f (cond t (Some x) None) ≡ cond t (Some (f x)) None
mapped_cond f true x = refl
mapped_cond f false x = refl

-- the first element with a test, of a list and one element more
pub one_more : {A B : Type 0} (test : A → Bool) (f : A → B) (xs : List A) (x : A) → option_map f (find test (xs ++ x ∷ [])) ≡ option_or (option_map f (find test xs)) (cond (test x) (Some (f x)) None)
one_more {A} {B} test f xs x =
    ap (option_map f) (find-append test xs (x ∷ []))
    ∙ mapped_or f (find test xs) (cond (test x) (Some x) None)
    ∙ ap (λ (o : Option B). option_or (option_map f (find test xs)) o) (mapped_cond f (test x) x)

-- what is found once a table more was read
pub found_more : (before : List Aux) (a : Aux) (f g : Found) → IsFound before f → g.places.items ≡ f.places.items ++ places_held a ∷ []
    → option_map entries_of g.alignment ≡ option_or (option_map entries_of f.alignment) (cond (is_alignment a) (Some (numbers_at a)) None)
    → option_map entries_of g.sizes ≡ option_or (option_map entries_of f.sizes) (cond (is_sizes a) (Some (sizes_at a)) None)
    → IsFound (before ++ a ∷ []) g
found_more before a f g is places numbers sizes = record {
  places = places ∙ ap (λ (xs : List (Option (List Place))). xs ++ places_held a ∷ []) is.places ∙ sym (map-append places_held before (a ∷ []));
  alignment = numbers ∙ ap (λ (o : Option (List (List ℕ × ℕ))). option_or o (cond (is_alignment a) (Some (numbers_at a)) None)) is.alignment ∙ sym (one_more is_alignment numbers_at before a);
  sizes = sizes ∙ ap (λ (o : Option (List ((List ℕ × ℕ) × ℕ))). option_or o (cond (is_sizes a) (Some (sizes_at a)) None)) is.sizes ∙ sym (one_more is_sizes sizes_at before a);
}
