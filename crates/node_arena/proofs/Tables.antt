-- A table of a name gets other bytes.
use Rattle.std.proofs.Common.{◌≡◌, ℕ, ◌+◌, ◌<◌, ◌≤◌, Bool, true, false, List, [], ◌∷◌, ◌++◌, length, get_or, set, take, drop, map, refl, sym, ap, ◌∙◌, subst, append_assoc, add-one}
use Rattle.std.specs.Prelude.{if◌then◌else◌}
use Rattle.std.specs.Str.{bytes_eq}
use Rattle.std.proofs.lemmas.List.{drop_more, take_more, take_all, drop_all, set_split, append-nil}
use Rattle.gt_model.specs.declared.tables.Aux.{Aux}
use Rattle.gt_model.specs.Ordered.{ordered_aux}
use Rattle.node_arena.specs.Changes.{with_table}

abbrev pub no_table : Aux
no_table = record { name = []; type_name = []; bytes = [] }

module _ (name bytes : List ℕ) where
  -- the first tables are of other names
  abbrev pub after_first : ℕ → List Aux → List Aux
  after_first k xs = take k xs ++ with_table (drop k xs) name bytes

  module _ (xs : List Aux) (k : ℕ) (within : k < length xs) where
    chosen : (b : Bool) → bytes_eq (get_or xs k no_table).name name ≡ b
        → after_first k xs ≡ take k xs ++ (if b then record (get_or xs k no_table) { bytes = bytes } ∷ drop (k + 1) xs else get_or xs k no_table ∷ with_table (drop (k + 1) xs) name bytes)
    chosen b e =
        ap (λ (ys : List Aux). take k xs ++ with_table ys name bytes) (drop_more xs k no_table within)
        ∙ ap (λ (t : Bool). take k xs ++ (if t then record (get_or xs k no_table) { bytes = bytes } ∷ drop (k + 1) xs else get_or xs k no_table ∷ with_table (drop (k + 1) xs) name bytes)) e

    pub tables_more : bytes_eq (get_or xs k no_table).name name ≡ false → after_first k xs ≡ after_first (k + 1) xs
    tables_more e =
        chosen false e ∙ sym (append_assoc (take k xs) (get_or xs k no_table ∷ []) (with_table (drop (k + 1) xs) name bytes))
        ∙ ap (λ (ys : List Aux). ys ++ with_table (drop (k + 1) xs) name bytes) (sym (take_more xs k no_table within))

    pub tables_found : bytes_eq (get_or xs k no_table).name name ≡ true → after_first k xs ≡ set xs k (record (get_or xs k no_table) { bytes = bytes })
    tables_found e =
        chosen true e ∙ ap (λ (n : ℕ). take k xs ++ record (get_or xs k no_table) { bytes = bytes } ∷ drop n xs) (add-one k)
        ∙ sym (set_split xs k (record (get_or xs k no_table) { bytes = bytes }) within)

  pub tables_all : (xs : List Aux) (k : ℕ) → length xs ≤ k → after_first k xs ≡ xs
  tables_all xs k h = rw (take_all k xs h, drop_all k xs h) (append-nil xs)

  same_names : (xs : List Aux) → map (λ (a : Aux). a.name) (with_table xs name bytes) ≡ map (λ (a : Aux). a.name) xs
  same_names [] = refl
  same_names (x ∷ xs) = by (bytes_eq x.name name) (same_names xs)
    where
      by : (b : Bool) → map (λ (a : Aux). a.name) (with_table xs name bytes) ≡ map (λ (a : Aux). a.name) xs
          → map (λ (a : Aux). a.name) (if b then record x { bytes = bytes } ∷ xs else x ∷ with_table xs name bytes) ≡ x.name ∷ map (λ (a : Aux). a.name) xs
      by true e = refl
      by false e = ap (λ (l : List (List ℕ)). x.name ∷ l) e

  -- the tables keep their order
  pub ordered_tables : (xs : List Aux) → ordered_aux xs → ordered_aux (with_table xs name bytes)
  ordered_tables xs o = rw same_names o
