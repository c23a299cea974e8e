-- The first fault of references, list by list.
use Rattle.std.proofs.Common.{◌≡◌, ℕ, ◌+◌, ◌<◌, List, [], ◌∷◌, ◌++◌, length, get_or, take, drop, Option, Some, None, Result, Ok, Err, arith, append_assoc, refl, sym, ap, ◌∙◌, append-nil}
use Rattle.std.specs.List.{flat_map}
use Rattle.std.specs.Option.{option_map, option_or}
use Rattle.std.proofs.lemmas.List.{take_more}
use Rattle.std.proofs.lemmas.List.Concat.{flat_map-append}
use Rattle.gt_model.specs.Linked.{LinkFault, first_reference_fault, reference_fault}
use Rattle.gt_model.specs.Nodes.{Kind}
use Rattle.gt_model.specs.References.{Reference}
use Rattle.node_arena.specs.declared.fault.CheckFault.{CheckFault}
use Rattle.gt_model.specs.declared.modules.Module.{Module}
use Rattle.gt_model.specs.References.{module_references, references_from}
use Rattle.node_arena.specs.declared.arena.Arena.{Arena}
use Rattle.node_arena.specs.Checking.{check_fault, kind_found, ChecksAll}
use Rattle.node_arena.specs.Stored.{Index}
use Rattle.node_arena.proofs.IndexLists.{around}

module _ (kind_of : List ℕ → Option Kind) where
  pub faults-append : (xs ys : List Reference) → first_reference_fault kind_of (xs ++ ys) ≡ option_or (first_reference_fault kind_of xs) (first_reference_fault kind_of ys)
  faults-append [] ys = refl
  faults-append (x ∷ xs) ys = ap (option_or (reference_fault kind_of x)) (faults-append xs ys) ∙ or-assoc (reference_fault kind_of x) (first_reference_fault kind_of xs) (first_reference_fault kind_of ys)
    where
      or-assoc : (a b c : Option LinkFault) → option_or a (option_or b c) ≡ option_or (option_or a b) c
      or-assoc None b c = refl
      or-assoc (Some x) b c = refl

  pub none-both : (xs ys : List Reference) → first_reference_fault kind_of xs ≡ None → first_reference_fault kind_of ys ≡ None → first_reference_fault kind_of (xs ++ ys) ≡ None
  none-both xs ys p q = faults-append xs ys ∙ (λ i. option_or (p i) (q i))

  pub fault-later : (xs ys : List Reference) (f : CheckFault) → first_reference_fault kind_of xs ≡ None → option_map check_fault (first_reference_fault kind_of ys) ≡ Some f
      → option_map check_fault (first_reference_fault kind_of (xs ++ ys)) ≡ Some f
  fault-later xs ys f p q = ap (option_map check_fault) (faults-append xs ys ∙ ap (λ o. option_or o (first_reference_fault kind_of ys)) p) ∙ q

  pub fault-earlier : (xs ys : List Reference) (f : CheckFault) → option_map check_fault (first_reference_fault kind_of xs) ≡ Some f
      → option_map check_fault (first_reference_fault kind_of (xs ++ ys)) ≡ Some f
  fault-earlier xs ys f p = ap (option_map check_fault) (faults-append xs ys) ∙ by (first_reference_fault kind_of xs) p
    where
      by : (o : Option LinkFault) → option_map check_fault o ≡ Some f → option_map check_fault (option_or o (first_reference_fault kind_of ys)) ≡ Some f
      by None h = absurd (cc)
      by (Some x) h = h

  module _ {X : Type 0} (rs : X → List Reference) (xs : List X) (k : ℕ) (d : X) (within : k < length xs) (none : first_reference_fault kind_of (flat_map rs (take k xs)) ≡ None) where
    -- one more item, without a fault and with one
    pub none-more : first_reference_fault kind_of (rs (get_or xs k d)) ≡ None → first_reference_fault kind_of (flat_map rs (take (k + 1) xs)) ≡ None
    none-more h =
        ap (λ l. first_reference_fault kind_of (flat_map rs l)) (take_more xs k d within) ∙ ap (first_reference_fault kind_of) (flat_map-append rs (take k xs) (get_or xs k d ∷ []) ∙ ap (λ l. flat_map rs (take k xs) ++ l) (append-nil (rs (get_or xs k d))))
        ∙ none-both (flat_map rs (take k xs)) (rs (get_or xs k d)) none h

    pub fault-here : (f : CheckFault) → option_map check_fault (first_reference_fault kind_of (rs (get_or xs k d))) ≡ Some f → option_map check_fault (first_reference_fault kind_of (flat_map rs xs)) ≡ Some f
    fault-here f h =
        ap (λ l. option_map check_fault (first_reference_fault kind_of (flat_map rs l))) (around xs k d within)
        ∙ ap (λ l. option_map check_fault (first_reference_fault kind_of l)) (flat_map-append rs (take k xs) (get_or xs k d ∷ drop (k + 1) xs))
        ∙ fault-later (flat_map rs (take k xs)) (rs (get_or xs k d) ++ flat_map rs (drop (k + 1) xs)) f none
        (fault-earlier (rs (get_or xs k d)) (flat_map rs (drop (k + 1) xs)) f h)

-- the same at an item that was read
module _ (kind_of : List ℕ → Option Kind) {X : Type 0} (rs : X → List Reference) (xs : List X) (k : ℕ) (x : X) (within : k < length xs) (item : x ≡ get_or xs k x)
    (none : first_reference_fault kind_of (flat_map rs (take k xs)) ≡ None) where
  pub none-at : first_reference_fault kind_of (rs x) ≡ None → first_reference_fault kind_of (flat_map rs (take (k + 1) xs)) ≡ None
  none-at h = none-more kind_of rs xs k x within none (ap (λ y. first_reference_fault kind_of (rs y)) (sym item) ∙ h)

  pub fault-at : (f : CheckFault) → option_map check_fault (first_reference_fault kind_of (rs x)) ≡ Some f → option_map check_fault (first_reference_fault kind_of (flat_map rs xs)) ≡ Some f
  fault-at f h = fault-here kind_of rs xs k x within none f (ap (λ y. option_map check_fault (first_reference_fault kind_of (rs y))) (sym item) ∙ h)

-- references after others that are right
pub checks-later : (a : Arena) (index : Index) (xs ys : List Reference) (r : Result (Unit {0}) CheckFault) → first_reference_fault (kind_found a index) xs ≡ None
    → ChecksAll a index ys r → ChecksAll a index (xs ++ ys) r
checks-later a index xs ys (Ok u) none h = none-both (kind_found a index) xs ys none h
checks-later a index xs ys (Err f) none h = fault-later (kind_found a index) xs ys f none h

-- the references of modules, of which the first has the ordinal m
pub references_from-append : (m k : ℕ) (xs ys : List Module) → m + length xs ≡ k → references_from m (xs ++ ys) ≡ references_from m xs ++ references_from k ys
references_from-append m k [] ys e = let f : m ≡ k = omega arith in ap (λ n. references_from n ys) f
references_from-append m k (x ∷ xs) ys e =
    ap (λ l. module_references m x ++ l) (references_from-append (m + 1) k xs ys (omega arith)) ∙ sym (append_assoc (module_references m x) (references_from (m + 1) xs) (references_from k ys))
