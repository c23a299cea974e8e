-- The keys of the maps in a meaning ascend.
use Rattle.std.proofs.Common.{◌≡◌, ℕ, List, [], ◌∷◌, map, refl, sym, ap, subst, ◌∙◌}
use Rattle.std.specs.declared.cmp.Ordering.{Ordering}
use Rattle.std.specs.declared.cmp.Ordering.TheVariants.{Less, Equal, Greater}
use Rattle.std.specs.Cmp.{IsTotalOrder}
use Rattle.std.specs.Ordering.{nat_cmp, ordering_reverse, match_ordering}
use Rattle.std.specs.Cmp.Lexicographic.{slice_cmp}
use Rattle.std.specs.BTreeMap.{insert_entry}
use Rattle.std.specs.List.{AllByRecursion, fold, filter_map}
use Rattle.std.specs.List.Sorted.{IsStrictlySortedBy}
use Rattle.std.proofs.lemmas.Cmp.{nat_cmp_total, nat_list_cmp_total}
use Rattle.gt_model.specs.declared.exprs.Expr.{Expr}
use Rattle.gt_model.specs.declared.intervals.Interval.{Interval}
use Rattle.gt_model.specs.declared.ir.Ir.{Ir}
use Rattle.gt_model.specs.declared.modules.Module.{Module}
use Rattle.gt_model.specs.declared.modules.Section.{Section}
use Rattle.gt_model.specs.declared.tables.Aux.{Aux}
use Rattle.gt_model.specs.Schema.{Key, TextKey, NumberKey, key_kind, Row, field, repeated, message, messages, member, member_message, entries, Rows, none, ◌&◌, table_rows, expr_rows, interval_rows, section_rows, module_rows, ir_rows}
use Rattle.gt_model.specs.Values.{Field, Fields, Plain}
use Rattle.gt_model.specs.Views.{interval_value, section_value, module_value, ir_value, expr_entry, table_entry}
use Rattle.gt_model.specs.Ordered.{ordered_interval, ordered_section, ordered_module, ordered}
use Rattle.gt_read.specs.Pieces.{Piece}
use Rattle.gt_read.specs.Kinds.{Read, Run, of_number, run_of}
use Rattle.gt_read.specs.Meaning.{meaning, field_meaning, key_cmp, map_of, alone, entry_of}
use Rattle.gt_read.specs.Identifiers.{plain, field_plain, plain_of}

module _ {K : Type 0} (R : K → K → Ordering) (o : IsTotalOrder R) where
  above : (k j : K) (ks : List K) → R k j ≡ Less → AllByRecursion (λ y. R j y ≡ Less) ks → AllByRecursion (λ y. R k y ≡ Less) ks
  above k j [] e a = a
  above k j (i ∷ ks) e a = (o.trans k j i e a.0, above k j ks e a.1)

module _ {K X : Type 0} (R : K → K → Ordering) (o : IsTotalOrder R) where
  abbrev keys : List (K × X) → List K
  keys es = map (λ (e : K × X). e.0) es

  all_inserted : (P : K → Type 0) (es : List (K × X)) (k : K) (v : X) → AllByRecursion P (keys es) → P k → AllByRecursion P (keys (insert_entry R es k v))
  all_inserted P [] k v a p = (p, a)
  all_inserted P (e ∷ es) k v a p = by (R k e.0) (all_inserted P es k v a.1 p)
    where
      by : (r : Ordering) → AllByRecursion P (keys (insert_entry R es k v)) → AllByRecursion P (keys (match_ordering r ((k, v) ∷ e ∷ es) ((e.0, v) ∷ es) (e ∷ insert_entry R es k v)))
      by Less h = (p, a)
      by Equal h = a
      by Greater h = (a.0, h)

  pub inserted : (es : List (K × X)) (k : K) (v : X) → IsStrictlySortedBy R (keys es) → IsStrictlySortedBy R (keys (insert_entry R es k v))
  unfolding IsStrictlySortedBy
  inserted [] k v s = (s, s)
  inserted (e ∷ es) k v s = by (R k e.0) refl (inserted es k v s.1)
    where
      by : (r : Ordering) → R k e.0 ≡ r → IsStrictlySortedBy R (keys (insert_entry R es k v)) → IsStrictlySortedBy R (keys (match_ordering r ((k, v) ∷ e ∷ es) ((e.0, v) ∷ es) (e ∷ insert_entry R es k v)))
      by Less is h = ((is, above R o k e.0 (keys es) is s.0), s)
      by Equal is h = s
      by Greater is h = (all_inserted (λ y. R e.0 y ≡ Less) es k v s.0 (o.antisymm e.0 k ∙ ap ordering_reverse is), h)

  pub folded : (es m : List (K × X)) → IsStrictlySortedBy R (keys m) → IsStrictlySortedBy R (keys (fold (λ n (e : K × X). insert_entry R n e.0 e.1) m es))
  folded [] m s = s
  folded (e ∷ es) m s = folded es (insert_entry R m e.0 e.1) (inserted m e.0 e.1 s)

-- ---- by the table of messages

abbrev plain_cmp : (k : Key) → Plain (key_kind k) → Plain (key_kind k) → Ordering
plain_cmp TextKey = slice_cmp nat_cmp
plain_cmp NumberKey = nat_cmp

unfoldable mutual
  FieldAscends : (row : Row) → Field Plain row → Type 0
  FieldAscends (field number k) v = Unit {0}
  FieldAscends (repeated number k) vs = Unit {0}
  FieldAscends (message number rows) v = Unit {0}
  FieldAscends (messages number rows) vs = AllByRecursion (λ v. Ascends rows v) vs
  FieldAscends (member members number k) v = Unit {0}
  FieldAscends (member_message members number rows) v = Unit {0}
  FieldAscends (entries number k rows) es = IsStrictlySortedBy (plain_cmp k) (map (λ (e : Plain (key_kind k) × Fields Plain rows). e.0) es)

  Ascends : (rows : Rows) → Fields Plain rows → Type 0
  Ascends none vs = Unit {0}
  Ascends (row & rows) vs = FieldAscends row vs.0 × Ascends rows vs.1

all_mapped : {A B : Type 0} (P : B → Type 0) (f : A → B) → ((a : A) → P (f a)) → (xs : List A) → AllByRecursion P (map f xs)
all_mapped P f p [] = tt
all_mapped P f p (x ∷ xs) = (p x, all_mapped P f p xs)

same_keys : {V W : Type 0} (k : Key) (f : V → W) (es : List (Read (key_kind k) × V)) → IsStrictlySortedBy (key_cmp k) (map (λ (e : Read (key_kind k) × V). e.0) es)
    → IsStrictlySortedBy (plain_cmp k) (map (λ (e : Plain (key_kind k) × W). e.0) (map (λ (e : Read (key_kind k) × V). (plain_of (key_kind k) e.0, f e.1)) es))
same_keys {V = V} {W = W} TextKey f es s = subst (IsStrictlySortedBy (slice_cmp nat_cmp)) (sym (twice es)) s
  where
    twice : (es : List (List ℕ × V)) → map (λ (e : List ℕ × W). e.0) (map (λ (e : List ℕ × V). (e.0, f e.1)) es) ≡ map (λ (e : List ℕ × V). e.0) es
    twice [] = refl
    twice (e ∷ es) = ap (λ ks. e.0 ∷ ks) (twice es)
same_keys {V = V} {W = W} NumberKey f es s = subst (IsStrictlySortedBy nat_cmp) (sym (twice es)) s
  where
    twice : (es : List (ℕ × V)) → map (λ (e : ℕ × W). e.0) (map (λ (e : ℕ × V). (e.0, f e.1)) es) ≡ map (λ (e : ℕ × V). e.0) es
    twice [] = refl
    twice (e ∷ es) = ap (λ ks. e.0 ∷ ks) (twice es)

pub map_ascends : {V : Type 0} (k : Key) (es : List (Read (key_kind k) × V)) → IsStrictlySortedBy (key_cmp k) (map (λ (e : Read (key_kind k) × V). e.0) (map_of (key_cmp k) es))
unfolding IsStrictlySortedBy
map_ascends TextKey es = folded (slice_cmp nat_cmp) nat_list_cmp_total es [] tt
map_ascends NumberKey es = folded nat_cmp nat_cmp_total es [] tt

mutual
  unfolding Ascends meaning plain

  field_ascends : (row : Row) (place : ℕ) (ps : List Piece) → FieldAscends row (field_plain row (field_meaning row place ps))
  field_ascends (field number k) place ps = tt
  field_ascends (repeated number k) place ps = tt
  field_ascends (message number rows) place ps = tt
  field_ascends (messages number rows) place ps = all (filter_map run_of (of_number number ps)) (λ at qs. ascends rows at qs)
    where
      all : (rs : List Run) → ((at : ℕ) (qs : List Piece) → Ascends rows (plain rows (meaning rows at qs)))
          → AllByRecursion (λ v. Ascends rows v) (map (λ w. plain rows w) (map (alone (λ at qs. meaning rows at qs)) rs))
      all [] a = tt
      all (r ∷ rs) a = (a _ _, all rs a)
  field_ascends (member members number k) place ps = tt
  field_ascends (member_message members number rows) place ps = tt
  field_ascends (entries number k rows) place ps =
      same_keys k (λ w. plain rows w) _ (map_ascends k (map (entry_of k (λ at qs. meaning rows at qs)) (filter_map run_of (of_number number ps))))

  ascends : (rows : Rows) (place : ℕ) (ps : List Piece) → Ascends rows (plain rows (meaning rows place ps))
  ascends none place ps = tt
  ascends (row & rows) place ps = (field_ascends row place ps, ascends rows place ps)

-- ---- the parts of an IR

all_back : {A B : Type 0} (P : B → Type 0) (Q : A → Type 0) (f : A → B) → ((a : A) → P (f a) → Q a) → (xs : List A) → AllByRecursion P (map f xs) → AllByRecursion Q xs
all_back P Q f q [] a = tt
all_back P Q f q (x ∷ xs) a = (q x a.0, all_back P Q f q xs a.1)

exprs_back : (es : List Expr) → map (λ (e : ℕ × Fields Plain expr_rows). e.0) (map expr_entry es) ≡ map (λ (e : Expr). e.at) es
exprs_back [] = refl
exprs_back (e ∷ es) = ap (λ ks. e.at ∷ ks) (exprs_back es)

aux_back : (es : List Aux) → map (λ (e : List ℕ × Fields Plain table_rows). e.0) (map table_entry es) ≡ map (λ (a : Aux). a.name) es
aux_back [] = refl
aux_back (e ∷ es) = ap (λ ks. e.name ∷ ks) (aux_back es)

interval_ordered : (i : Interval) → Ascends interval_rows (interval_value i) → ordered_interval i
unfolding Ascends interval_rows interval_value
interval_ordered i a = record { exprs = subst (IsStrictlySortedBy nat_cmp) (exprs_back i.exprs) a.1.1.0 }

section_ordered : (s : Section) → Ascends section_rows (section_value s) → ordered_section s
unfolding Ascends section_rows section_value
section_ordered s a = record { intervals = all_back (Ascends interval_rows) ordered_interval interval_value interval_ordered s.intervals a.1.1.0 }

module_ordered : (m : Module) → Ascends module_rows (module_value m) → ordered_module m
unfolding Ascends module_rows module_value
module_ordered m a = record {
  sections = all_back (Ascends section_rows) ordered_section section_value section_ordered m.sections a.1.1.1.1.1.1.1.1.0;
  aux = subst (IsStrictlySortedBy (slice_cmp nat_cmp)) (aux_back m.aux) a.1.1.1.1.1.1.1.1.1.1.0;
}

ir_ordered : (ir : Ir) → Ascends ir_rows (ir_value ir) → ordered ir
unfolding Ascends ir_rows ir_value
ir_ordered ir a = record {
  modules = all_back (Ascends module_rows) ordered_module module_value module_ordered ir.modules a.1.0;
  aux = subst (IsStrictlySortedBy (slice_cmp nat_cmp)) (aux_back ir.aux) a.1.1.0;
}

pub meaning_ordered : (place : ℕ) (ps : List Piece) (ir : Ir) → plain ir_rows (meaning ir_rows place ps) ≡ ir_value ir → ordered ir
meaning_ordered place ps ir e = ir_ordered ir (subst (Ascends ir_rows) e (ascends ir_rows place ps))
