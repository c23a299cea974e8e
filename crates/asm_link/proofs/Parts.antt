-- The intervals of a module, one after the other.
use Rattle.std.proofs.Common.{◌≡◌, ℕ, ◌+◌, ◌<◌, Bool, true, false, List, [], ◌∷◌, ◌++◌, length, get_or, take, drop, filter, map, sym, ap, ◌∙◌, eq-eqb}
use Rattle.std.specs.Option.{option_or}
use Rattle.std.specs.List.{AllByRecursion, flat_map}
use Rattle.std.proofs.lemmas.Bool.{cond-true, cond-false, ne_eqb}
use Rattle.std.proofs.lemmas.List.{append-nil, map-append, take_more}
use Rattle.std.proofs.lemmas.List.Elements.{filter-append}
use Rattle.asm_modules.specs.declared.module.AsmInterval.{AsmInterval}
use Rattle.asm_modules.specs.declared.module.AsmLabel.{AsmLabel}
use Rattle.asm_modules.specs.Valid.{interval_size, IsInterval, IsItem}
use Rattle.bare_image.specs.declared.image.Segment.{Segment}
use Rattle.sym_expr.specs.declared.layout.Layout.{Layout}
use Rattle.sym_expr.specs.Images.{first_fault}
use Rattle.sym_expr.specs.Layouts.{address_of}
use Rattle.asm_link.specs.Linked.{interval_faults, is_some_bytes, items_bytes, segment_of}
use Rattle.asm_link.proofs.ItemBytes.{first_fault-append}
use Rattle.asm_link.proofs.Lists.{dropped}

-- all items of an interval are as they should be
abbrev pub HasItems : AsmInterval → Type 0
HasItems i = AllByRecursion IsItem i.items

pub all_items : (is : List AsmInterval) → AllByRecursion IsInterval is → AllByRecursion HasItems is
all_items [] all = tt
all_items (i ∷ is) all = (all.0.items, all_items is all.1)

pub segment_is : (l : Layout) (labels : List AsmLabel) (i : AsmInterval) (x : Segment) (at : ℕ) (bytes : List ℕ) → x ≡ record { at = at; bytes = bytes } → at ≡ address_of l i.uuid → bytes ≡ items_bytes l labels at i.items
    → x ≡ segment_of l labels i
segment_is l labels i x at bytes is at_is bytes_is =
    is ∙ ap (λ (b : List ℕ). record { at = at; bytes = b }) bytes_is ∙ ap (λ (a : ℕ). record { at = a; bytes = items_bytes l labels a i.items }) at_is

abbrev not_of : Bool → Bool
not_of true = false
not_of false = true

pub no_segment : (l : Layout) (labels : List AsmLabel) (i : AsmInterval) (before : List Segment) → interval_size i ≡ 0 → before ≡ before ++ map (segment_of l labels) (filter is_some_bytes (i ∷ []))
no_segment l labels i before none =
    sym (append-nil before)
    ∙ ap (λ is. before ++ map (segment_of l labels) is) (sym (cond-false (is_some_bytes i) (i ∷ []) [] (ap (λ v. not_of v) (eq-eqb (interval_size i) 0 none))))

pub one_segment : (l : Layout) (labels : List AsmLabel) (i : AsmInterval) (before : List Segment) (x : Segment) → (interval_size i ≡ 0 → ⊥) → x ≡ segment_of l labels i
    → before ++ x ∷ [] ≡ before ++ map (segment_of l labels) (filter is_some_bytes (i ∷ []))
one_segment l labels i before x some is =
    ap (λ y. before ++ y ∷ []) is
    ∙ ap (λ is. before ++ map (segment_of l labels) is) (sym (cond-true (is_some_bytes i) (i ∷ []) [] (ap (λ v. not_of v) (ne_eqb (interval_size i) 0 some))))

module _ (l : Layout) (labels : List AsmLabel) (is : List AsmInterval) (at : ℕ) (i : AsmInterval) (lt : at < length is) (here : i ≡ get_or is at i) where
  pub segments_more : (before now : List Segment) → before ≡ map (segment_of l labels) (filter is_some_bytes (take at is)) → now ≡ before ++ map (segment_of l labels) (filter is_some_bytes (i ∷ []))
      → now ≡ map (segment_of l labels) (filter is_some_bytes (take (at + 1) is))
  segments_more before now so_far added =
      added ∙ ap (λ xs. xs ++ map (segment_of l labels) (filter is_some_bytes (i ∷ []))) so_far
      ∙ sym (map-append (segment_of l labels) (filter is_some_bytes (take at is)) (filter is_some_bytes (i ∷ [])))
      ∙ ap (map (segment_of l labels)) (sym (filter-append is_some_bytes (take at is) (i ∷ [])))
      ∙ ap (λ ts. map (segment_of l labels) (filter is_some_bytes ts)) (sym (take_more is at i lt ∙ ap (λ t. take at is ++ t ∷ []) (sym here)))

  pub faults_behind : first_fault (flat_map (interval_faults l labels) (drop at is)) ≡ option_or (first_fault (interval_faults l labels i)) (first_fault (flat_map (interval_faults l labels) (drop (at + 1) is)))
  faults_behind =
      ap (λ ts. first_fault (flat_map (interval_faults l labels) ts)) (dropped is at i lt here)
      ∙ first_fault-append (interval_faults l labels i) (flat_map (interval_faults l labels) (drop (at + 1) is))
