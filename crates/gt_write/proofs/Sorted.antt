-- A map whose entries come in the order of their keys keeps them as they come.
use Rattle.std.proofs.Common.{◌≡◌, List, [], ◌∷◌, ◌++◌, map, refl, sym, ap, subst, ◌∙◌, append_assoc}
use Rattle.std.specs.declared.cmp.Ordering.{Ordering}
use Rattle.std.specs.declared.cmp.Ordering.TheVariants.{Less, Greater}
use Rattle.std.specs.Cmp.{IsTotalOrder}
use Rattle.std.specs.Ordering.{ordering_reverse, match_ordering}
use Rattle.std.specs.BTreeMap.{insert_entry}
use Rattle.std.specs.List.{AllByRecursion, fold}
use Rattle.std.specs.List.Sorted.{IsStrictlySortedBy}
use Rattle.std.proofs.lemmas.List.{append-nil}
use Rattle.gt_read.specs.Meaning.{map_of}

module _ {K V : Type 0} (R : K → K → Ordering) (o : IsTotalOrder R) where
  abbrev keys : List (K × V) → List K
  keys es = map (λ (e : K × V). e.0) es

  among : (P : K → Type 0) (m : List (K × V)) (e : K × V) (es : List (K × V)) → AllByRecursion P (keys (m ++ e ∷ es)) → P e.0
  among P [] e es a = a.0
  among P (d ∷ m) e es a = among P m e es a.1

  at_end : (m : List (K × V)) (e : K × V) (es : List (K × V)) → IsStrictlySortedBy R (keys (m ++ e ∷ es)) → insert_entry R m e.0 e.1 ≡ m ++ e ∷ []
  unfolding IsStrictlySortedBy
  at_end [] e es s = refl
  at_end (d ∷ m) e es s =
      let below : R d.0 e.0 ≡ Less = among (λ y. R d.0 y ≡ Less) m e es s.0 in
      let above : R e.0 d.0 ≡ Greater = o.antisymm e.0 d.0 ∙ ap ordering_reverse below in
      ap (λ r. match_ordering r ((e.0, e.1) ∷ d ∷ m) ((d.0, e.1) ∷ m) (d ∷ insert_entry R m e.0 e.1)) above ∙ ap (λ (l : List (K × V)). d ∷ l) (at_end m e es s.1)

  folded : (m es : List (K × V)) → IsStrictlySortedBy R (keys (m ++ es)) → fold (λ n (e : K × V). insert_entry R n e.0 e.1) m es ≡ m ++ es
  folded m [] s = sym (append-nil m)
  folded m (e ∷ es) s =
      let apart : (m ++ e ∷ []) ++ es ≡ m ++ e ∷ es = append_assoc m (e ∷ []) es in
      ap (λ n. fold (λ n (e : K × V). insert_entry R n e.0 e.1) n es) (at_end m e es s)
      ∙ folded (m ++ e ∷ []) es (subst (λ l. IsStrictlySortedBy R (keys l)) (sym apart) s) ∙ apart

  pub map_kept : (es : List (K × V)) → IsStrictlySortedBy R (keys es) → map_of R es ≡ es
  map_kept es s = folded [] es s
