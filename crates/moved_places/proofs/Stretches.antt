-- The interval of a program that a loaded interval of the module becomes.
use Rattle.std.proofs.Common.{◌≡◌, ◌≢◌, ℕ, zero, suc, ◌<◌, ◌⊎◌, Bool, Some, List, [], ◌∷◌, ◌++◌, find, map, sum_by, sym, ap, subst, ◌∙◌, inl, inr, arith}
use Rattle.std.specs.List.{AllByRecursion, AllPairs, flat_map}
use Rattle.std.specs.Str.{bytes_eq}
use Rattle.std.proofs.lemmas.Bool.{cond-true, cond-false, cases_Bool}
use Rattle.std.proofs.lemmas.List.Elements.{recursion_from_All}
use Rattle.std.proofs.lemmas.List.Sums.{sum_by-cons}
use Rattle.std.proofs.lemmas.Slice.Eq.{bytes_eq-Decides}
use Rattle.gt_model.specs.declared.intervals.Interval.{Interval}
use Rattle.gt_model.specs.declared.modules.Module.{Module}
use Rattle.gt_model.specs.declared.modules.Section.{Section}
use Rattle.sym_expr.specs.declared.patches.PatchTable.{PatchTable}
use Rattle.sym_expr.specs.declared.program.Stretch.{Stretch}
use Rattle.sym_expr.specs.Modules.{intervals_of, loaded_intervals, loaded_sections}
use Rattle.sym_expr.specs.Placing.{stretch_size}
use Rattle.sym_expr.specs.Program.{program, section_stretches, stretch}
use Rattle.sym_expr.specs.Tables.{Tables}
use Rattle.sym_expr.specs.WellMade.{well_made}

-- ---- membership

abbrev IsIn : {X : Type 0} → X → List X → Type 0
IsIn x [] = ⊥
IsIn x (y ∷ ys) = (y ≡ x) ⊎ IsIn x ys

in_left : {X : Type 0} (x : X) (xs ys : List X) → IsIn x xs → IsIn x (xs ++ ys)
in_left x [] ys h = absurd h
in_left x (z ∷ xs) ys (inl e) = inl e
in_left x (z ∷ xs) ys (inr h) = inr (in_left x xs ys h)

in_right : {X : Type 0} (x : X) (xs ys : List X) → IsIn x ys → IsIn x (xs ++ ys)
in_right x [] ys h = h
in_right x (z ∷ xs) ys h = inr (in_right x xs ys h)

in_either : {X : Type 0} (x : X) (xs ys : List X) → IsIn x (xs ++ ys) → IsIn x xs ⊎ IsIn x ys
in_either x [] ys h = inr h
in_either x (z ∷ xs) ys (inl e) = inl (inl e)
in_either x (z ∷ xs) ys (inr h) = elim (in_either x xs ys h) [ inl l ↦ inl (inr l) | inr r ↦ inr r ]

in_map : {X Y : Type 0} (f : X → Y) (x : X) (xs : List X) → IsIn x xs → IsIn (f x) (map f xs)
in_map f x [] h = absurd h
in_map f x (y ∷ ys) (inl e) = inl (ap f e)
in_map f x (y ∷ ys) (inr h) = inr (in_map f x ys h)

found_in : {X : Type 0} (test : X → Bool) (xs : List X) (x : X) → find test xs ≡ Some x → IsIn x xs
found_in test [] x e = cc
found_in test (y ∷ ys) x e =
    elim (cases_Bool (test y)) [
      | inl passes ↦ let here = sym (cond-true (test y) (Some y) (find test ys) passes) ∙ e in let same : y ≡ x = cc in inl same
      | inr fails ↦ inr (found_in test ys x (sym (cond-false (test y) (Some y) (find test ys) fails) ∙ e))
    ]

-- the intervals of sections are among their stretches
stretch_in : (m : Module) (t : Tables) (p : PatchTable) (i : Interval) (ss : List Section) → IsIn i (intervals_of ss) → IsIn (stretch m t p i) (flat_map (section_stretches m t p) ss)
stretch_in m t p i [] h = absurd h
stretch_in m t p i (s ∷ ss) h =
    elim (in_either i s.intervals (intervals_of ss) h) [
      | inl here ↦ in_left (stretch m t p i) (section_stretches m t p s) (flat_map (section_stretches m t p) ss) (in_left (stretch m t p i) (map (stretch m t p) s.intervals) _ (in_map (stretch m t p) i s.intervals here))
      | inr later ↦ in_right (stretch m t p i) (section_stretches m t p s) (flat_map (section_stretches m t p) ss) (stretch_in m t p i ss later)
    ]

-- ---- what is there once is found

all_in : {X : Type 0} (P : X → Type 0) (x : X) (xs : List X) → AllByRecursion P xs → IsIn x xs → P x
all_in P x [] all h = absurd h
all_in P x (y ∷ ys) all (inl e) = subst P e all.0
all_in P x (y ∷ ys) all (inr h) = all_in P x ys all.1 h

abbrev Apart : List Stretch → Type 0
Apart [] = Unit {0}
Apart (s ∷ ss) = AllByRecursion (λ (later : Stretch). s.id ≢ later.id) ss × Apart ss

apart_from : (ss : List Stretch) → AllPairs (λ (s later : Stretch). s.id ≢ later.id) ss → Apart ss
apart_from [] h = tt
apart_from (s ∷ ss) h = (
  recursion_from_All (λ (later : Stretch). s.id ≢ later.id) ss (λ j d lt. h zero (suc j) d (omega arith) (omega arith)),
  apart_from ss (λ i j d lt within. h (suc i) (suc j) d (omega arith) (omega arith)),
)

once_found : (id : List ℕ) (s : Stretch) (ss : List Stretch) → Apart ss → IsIn s ss → s.id ≡ id → find (λ (r : Stretch). bytes_eq r.id id) ss ≡ Some s
once_found id s [] apart h e = absurd h
once_found id s (r ∷ rs) apart (inl here) e =
    cond-true (bytes_eq r.id id) (Some r) (find (λ (q : Stretch). bytes_eq q.id id) rs) ((bytes_eq-Decides r.id id).1 (ap (λ (q : Stretch). q.id) here ∙ e)) ∙ ap Some here
once_found id s (r ∷ rs) apart (inr later) e =
    elim (cases_Bool (bytes_eq r.id id)) [
      | inl same ↦
          let here : r.id ≡ id = (bytes_eq-Decides r.id id).0 same in
          absurd (all_in (λ (q : Stretch). r.id ≢ q.id) s rs apart.0 later (here ∙ sym e))
      | inr other ↦ cond-false (bytes_eq r.id id) (Some r) (find (λ (q : Stretch). bytes_eq q.id id) rs) other ∙ once_found id s rs apart.1 later e
    ]

pub stretch_found : (m : Module) (t : Tables) (p : PatchTable) (id : List ℕ) (i : Interval) → well_made (program m t p) → find (λ (j : Interval). bytes_eq j.uuid id) (loaded_intervals m) ≡ Some i → i.uuid ≡ id
    → find (λ (s : Stretch). bytes_eq s.id id) (program m t p).stretches ≡ Some (stretch m t p i)
stretch_found m t p id i well found same =
    once_found id (stretch m t p i) (program m t p).stretches (apart_from (program m t p).stretches well.distinct)
    (stretch_in m t p i (loaded_sections m) (found_in (λ (j : Interval). bytes_eq j.uuid id) (loaded_intervals m) i found)) same

-- ---- sizes

pub each_small : (most : ℕ) (ss : List Stretch) → sum_by stretch_size ss < most → AllByRecursion (λ (s : Stretch). stretch_size s < most) ss
each_small most [] h = tt
each_small most (s ∷ ss) h =
    let sum = sum_by-cons stretch_size s ss in
    (omega arith, each_small most ss (omega arith))
