-- Each message that is spelled reads back, by the table of its fields.
use Rattle.std.proofs.Common.{◌≡◌, ℕ, ◌+◌, ◌^◌, Bool, true, false, List, [], ◌∷◌, ◌++◌, map, length, refl, sym, ap, ◌∙◌, append_assoc}
use Rattle.std.specs.Prelude.{◌&&◌, not, nat_lt, Option, IfSome}
use Rattle.std.specs.List.{AllByRecursion}
use Rattle.std.specs.List.Sorted.{IsStrictlySortedBy}
use Rattle.std.proofs.lemmas.Bool.{ltb-true}
use Rattle.gt_model.specs.Schema.{Key, key_kind, run, Row, field, repeated, message, messages, member, member_message, entries, Rows, none, ◌&◌}
use Rattle.gt_model.specs.Values.{Plain, Field, Fields}
use Rattle.gt_read.specs.declared.fault.FormatFault.{FormatFault}
use Rattle.gt_read.specs.Pieces.{Piece}
use Rattle.gt_read.specs.Meaning.{meaning, field_meaning}
use Rattle.gt_read.specs.Identifiers.{plain, field_plain, bad, field_bad}
use Rattle.gt_read.specs.Faults.{field_faults, piece_faults}
use Rattle.gt_write.specs.Spelling.{plain_record, run_record, field_records, spelling}
use Rattle.gt_write.specs.Lengths.{LengthFits, plain_length, field_lengths, lengths_fit}
use Rattle.gt_write.proofs.ReadingLaws.{ReadingLaws}
use Rattle.gt_write.proofs.Walking.{Walks, walks_nil, walks_append}
use Rattle.gt_write.proofs.KindsBack.{Fits, IsNumber, wire_of_kind}
use Rattle.gt_write.proofs.Foreign.{number_of, disturbs, Untouched, untouched, untouched_faults, field_among, all_append}
use Rattle.gt_write.proofs.Backs.{FieldBack, MessageBack, is_listed, all_two, some_two}
use Rattle.gt_write.proofs.PlainFields.{plain_field_back, member_back}
use Rattle.gt_write.proofs.RepeatedFields.{repeated_back}
use Rattle.gt_write.proofs.MessageFields.{message_back, messages_back, member_message_back}
use Rattle.gt_write.proofs.EntryFields.{plain_cmp, entries_back}

-- a member of a oneof is one of its list
abbrev pub listed : Row → Bool
listed (field n k) = true
listed (repeated n k) = true
listed (message n rows) = true
listed (messages n rows) = true
listed (member members n k) = is_listed members n (wire_of_kind k)
listed (member_message members n rows) = is_listed members n run
listed (entries n k rows) = true

-- a row as a schema has them
abbrev pub well_numbered : Row → Bool
well_numbered row = nat_lt 0 (number_of row) && (nat_lt (number_of row) (2 ^ 29) && listed row)

-- no records of the field bear on one after it, nor theirs on it
abbrev pub lone : (row : Row) → Field Plain row → (rows : Rows) → Fields Plain rows → Bool
lone row v none vs = true
lone row v (next & rows) vs = not (disturbs row v next vs.0) && (not (disturbs next vs.0 row v) && lone row v rows vs.1)

unfoldable mutual
  pub FieldSpellable : (row : Row) → Field Plain row → Type 0
  FieldSpellable (field n k) v = Fits k v
  FieldSpellable (repeated n k) vs = AllByRecursion (Fits k) vs
  FieldSpellable (message n rows) v = IfSome v (λ w. Spellable rows w)
  FieldSpellable (messages n rows) vs = AllByRecursion (λ w. Spellable rows w) vs
  FieldSpellable (member members n k) v = IfSome v (Fits k)
  FieldSpellable (member_message members n rows) v = IfSome v (λ w. Spellable rows w)
  FieldSpellable (entries n k rows) es = AllByRecursion (λ (e : Plain (key_kind k) × Fields Plain rows). Fits (key_kind k) e.0 × Spellable rows e.1) es × IsStrictlySortedBy (plain_cmp k) (map (λ (e : Plain (key_kind k) × Fields Plain rows). e.0) es)

  -- values of the kinds, of each oneof one at most, and maps in the order of their keys
  pub Spellable : (rows : Rows) → Fields Plain rows → Type 0
  Spellable none vs = Unit {0}
  Spellable (row & rows) vs = (well_numbered row ≡ true) × (lone row vs.0 rows vs.1 ≡ true) × FieldSpellable row vs.0 × Spellable rows vs.1

-- ---- Booleans

and_true : (a b : Bool) → a && b ≡ true → (a ≡ true) × (b ≡ true)
and_true true b e = (refl, e)
and_true false b e = absurd cc

not_true : (a : Bool) → not a ≡ true → a ≡ false
not_true true e = absurd cc
not_true false e = refl

number_is : (row : Row) → well_numbered row ≡ true → IsNumber (number_of row)
number_is row e =
    let parts = and_true (nat_lt 0 (number_of row)) _ e in
    record { first = ltb-true _ _ parts.0; last = ltb-true _ _ (and_true (nat_lt (number_of row) (2 ^ 29)) _ parts.1).0 }

listed_is : (row : Row) → well_numbered row ≡ true → listed row ≡ true
listed_is row e = (and_true (nat_lt (number_of row) (2 ^ 29)) _ (and_true (nat_lt 0 (number_of row)) _ e).1).1

-- ---- the fields of a message together

abbrev UntouchedAll : (rows : Rows) → Fields Plain rows → List Piece → Type 0
UntouchedAll none vs ps = Unit {0}
UntouchedAll (row & rows) vs ps = Untouched row vs.0 ps × UntouchedAll rows vs.1 ps

nothing_touches : (rows : Rows) (vs : Fields Plain rows) → UntouchedAll rows vs []
nothing_touches none vs = tt
nothing_touches (row & rows) vs = (tt, nothing_touches rows vs.1)

untouched_more : (rows : Rows) (vs : Fields Plain rows) (ps qs : List Piece) → UntouchedAll rows vs ps → UntouchedAll rows vs qs → UntouchedAll rows vs (ps ++ qs)
untouched_more none vs ps qs a b = tt
untouched_more (row & rows) vs ps qs a b = (all_append _ ps qs a.0 b.0, untouched_more rows vs.1 ps qs a.1 b.1)

all_both : (f g : Piece → List FormatFault) (ps : List Piece) → AllByRecursion (λ p. f p ≡ []) ps → AllByRecursion (λ p. g p ≡ []) ps → AllByRecursion (λ p. f p ++ g p ≡ []) ps
all_both f g [] a b = tt
all_both f g (p ∷ ps) a b = (λ i. a.0 i ++ b.0 i, all_both f g ps a.1 b.1)

all_nothing : (ps : List Piece) → AllByRecursion (λ (p : Piece). ◌≡◌ {A = List FormatFault} [] []) ps
all_nothing [] = tt
all_nothing (p ∷ ps) = (refl, all_nothing ps)

-- the records of a field among those after it
module _ (row : Row) (v : Field Plain row) (base : ℕ) (f : FieldBack row v base) where
  own_apart : (rows : Rows) (vs : Fields Plain rows) → lone row v rows vs ≡ true → UntouchedAll rows vs f.ps
  own_apart none vs e = tt
  own_apart (next & rows) vs e =
      let parts = and_true (not (disturbs row v next vs.0)) _ e in
      (untouched row v next vs.0 f.ps f.unset (not_true _ parts.0) f.numbers, own_apart rows vs.1 (and_true (not (disturbs next vs.0 row v)) _ parts.1).1)

  own_sound : (rows : Rows) (vs : Fields Plain rows) → lone row v rows vs ≡ true → AllByRecursion (λ p. piece_faults rows p ≡ []) f.ps
  unfolding piece_faults
  own_sound none vs e = all_nothing f.ps
  own_sound (next & rows) vs e =
      let parts = and_true (not (disturbs row v next vs.0)) _ e in
      all_both (field_faults next) (piece_faults rows) f.ps
      (untouched_faults next vs.0 f.ps (untouched row v next vs.0 f.ps f.unset (not_true _ parts.0) f.numbers))
      (own_sound rows vs.1 (and_true (not (disturbs next vs.0 row v)) _ parts.1).1)

record RowsBack (rows : Rows) (vs : Fields Plain rows) (base : ℕ) : Type 0 where
  ps : List Piece
  walks : Walks (spelling rows vs) base ps
  apart : (row : Row) (v : Field Plain row) → lone row v rows vs ≡ true → Untouched row v ps
  value : (first : ℕ) (before : List Piece) → UntouchedAll rows vs before → plain rows (meaning rows first (before ++ ps)) ≡ vs
  clean : (first : ℕ) (before : List Piece) → UntouchedAll rows vs before → bad rows (meaning rows first (before ++ ps)) ≡ []
  sound : AllByRecursion (λ p. piece_faults rows p ≡ []) ps

none_back : (vs : Fields Plain none) (base : ℕ) → RowsBack none vs base
unfolding spelling meaning plain bad piece_faults
none_back vs base = record { ps = []; walks = walks_nil base; apart = λ row v e. tt; value = λ first before u. refl; clean = λ first before u. refl; sound = tt }

module _ (row : Row) (rows : Rows) (vs : Fields Plain (row & rows)) (base : ℕ) (lone_is : lone row vs.0 rows vs.1 ≡ true)
    (f : FieldBack row vs.0 base) (r : RowsBack rows vs.1 (base + length (field_records row vs.0))) where
  rest_apart : Untouched row vs.0 r.ps
  rest_apart = r.apart row vs.0 lone_is

  together_apart : (other : Row) (v : Field Plain other) → lone other v (row & rows) vs ≡ true → Untouched other v (f.ps ++ r.ps)
  together_apart other v e =
      let parts = and_true (not (disturbs other v row vs.0)) _ e in
      let more = and_true (not (disturbs row vs.0 other v)) _ parts.1 in
      all_append _ f.ps r.ps (untouched row vs.0 other v f.ps f.unset (not_true _ more.0) f.numbers) (r.apart other v more.1)

  module _ (first : ℕ) (before : List Piece) (u : UntouchedAll (row & rows) vs before) where
    behind_own : UntouchedAll rows vs.1 (before ++ f.ps)
    behind_own = untouched_more rows vs.1 before f.ps u.1 (own_apart row vs.0 base f rows vs.1 lone_is)

    again : before ++ (f.ps ++ r.ps) ≡ (before ++ f.ps) ++ r.ps
    again = sym (append_assoc before f.ps r.ps)

    own_is : field_meaning row first (before ++ (f.ps ++ r.ps)) ≡ field_meaning row first f.ps
    own_is = field_among row vs.0 first before f.ps r.ps f.unset u.0 rest_apart

    together_value : plain (row & rows) (meaning (row & rows) first (before ++ (f.ps ++ r.ps))) ≡ vs
    unfolding meaning plain
    together_value =
        let one : field_plain row (field_meaning row first (before ++ (f.ps ++ r.ps))) ≡ vs.0 = ap (field_plain row) own_is ∙ f.value first in
        let others : plain rows (meaning rows first (before ++ (f.ps ++ r.ps))) ≡ vs.1 = ap (λ ps. plain rows (meaning rows first ps)) again ∙ r.value first (before ++ f.ps) behind_own in
        λ i. (one i, others i)

    together_clean : bad (row & rows) (meaning (row & rows) first (before ++ (f.ps ++ r.ps))) ≡ []
    unfolding meaning bad
    together_clean =
        let one : field_bad row (field_meaning row first (before ++ (f.ps ++ r.ps))) ≡ [] = ap (field_bad row) own_is ∙ f.clean first in
        let others : bad rows (meaning rows first (before ++ (f.ps ++ r.ps))) ≡ [] = ap (λ ps. bad rows (meaning rows first ps)) again ∙ r.clean first (before ++ f.ps) behind_own in
        λ i. one i ++ others i

  together : RowsBack (row & rows) vs base
  unfolding spelling piece_faults
  together = record {
    ps = f.ps ++ r.ps;
    walks = walks_append (field_records row vs.0) (spelling rows vs.1) base f.ps r.ps f.walks r.walks;
    apart = together_apart;
    value = together_value;
    clean = together_clean;
    sound = all_append _ f.ps r.ps
        (all_both (field_faults row) (piece_faults rows) f.ps f.sound (own_sound row vs.0 base f rows vs.1 lone_is))
        (all_both (field_faults row) (piece_faults rows) r.ps (untouched_faults row vs.0 r.ps rest_apart) r.sound);
  }

whole_message : (rows : Rows) (vs : Fields Plain rows) (base : ℕ) → RowsBack rows vs base → MessageBack rows vs base
whole_message rows vs base r = record { ps = r.ps; walks = r.walks; value = λ first. r.value first [] (nothing_touches rows vs); clean = λ first. r.clean first [] (nothing_touches rows vs); sound = r.sound }

-- a message that can be spelled, with its length and those in it
abbrev Sized : (rows : Rows) → Fields Plain rows → (Fields Plain rows → Type 0) → Type 0
Sized rows w good = good w × (LengthFits (spelling rows w) × lengths_fit rows w)

sized_all : (rows : Rows) (good : Fields Plain rows → Type 0) (ws : List (Fields Plain rows)) → AllByRecursion good ws → AllByRecursion (λ w. LengthFits (spelling rows w) × lengths_fit rows w) ws → AllByRecursion (λ w. Sized rows w good) ws
sized_all rows good ws s l = all_two good (λ w. LengthFits (spelling rows w) × lengths_fit rows w) ws s l

sized_some : (rows : Rows) (good : Fields Plain rows → Type 0) (o : Option (Fields Plain rows)) → IfSome o good → IfSome o (λ w. LengthFits (spelling rows w) × lengths_fit rows w) → IfSome o (λ w. Sized rows w good)
sized_some rows good o s l = some_two good (λ w. LengthFits (spelling rows w) × lengths_fit rows w) o s l

-- an entry that can be spelled, with its lengths
abbrev EntryLengths : (k : Key) (rows : Rows) → Plain (key_kind k) × Fields Plain rows → Type 0
EntryLengths k rows e = LengthFits (plain_record 1 (key_kind k) e.0 ++ run_record 2 (spelling rows e.1)) × plain_length (key_kind k) e.0 × LengthFits (spelling rows e.1) × lengths_fit rows e.1

sized_entries : (k : Key) (rows : Rows) (good : Fields Plain rows → Type 0) (es : List (Plain (key_kind k) × Fields Plain rows)) → AllByRecursion (λ (e : Plain (key_kind k) × Fields Plain rows). Fits (key_kind k) e.0 × good e.1) es → AllByRecursion (EntryLengths k rows) es
    → AllByRecursion (λ (e : Plain (key_kind k) × Fields Plain rows). Fits (key_kind k) e.0 × Sized rows e.1 good × LengthFits (plain_record 1 (key_kind k) e.0 ++ run_record 2 (spelling rows e.1)) × plain_length (key_kind k) e.0) es
sized_entries k rows good [] s l = tt
sized_entries k rows good (e ∷ es) s l = ((s.0.0, (s.0.1, (l.0.2, l.0.3)), l.0.0, l.0.1), sized_entries k rows good es s.1 l.1)

module _ (laws : ReadingLaws) where
  mutual
    unfolding Spellable spelling lengths_fit

    field_back : (row : Row) (v : Field Plain row) (base : ℕ) → IsNumber (number_of row) → listed row ≡ true → FieldSpellable row v → field_lengths row v → FieldBack row v base
    field_back (field n k) v base num l s short = plain_field_back laws n base num k v s short
    field_back (repeated n k) v base num l s short = repeated_back laws n num k v base s short
    field_back (message n rows) v base num l s short =
        message_back rows laws (λ w. Sized rows w (λ x. Spellable rows x)) (λ w good. good.1.0) (λ w at good. whole_message rows w at (rows_back rows w at good.0 good.1.1)) n num v base (sized_some rows (λ w. Spellable rows w) v s short)
    field_back (messages n rows) v base num l s short =
        messages_back rows laws (λ w. Sized rows w (λ x. Spellable rows x)) (λ w good. good.1.0) (λ w at good. whole_message rows w at (rows_back rows w at good.0 good.1.1)) n num v base (sized_all rows (λ w. Spellable rows w) v s short)
    field_back (member members n k) v base num l s short = member_back laws n base num k members l v s short
    field_back (member_message members n rows) v base num l s short =
        member_message_back rows laws (λ w. Sized rows w (λ x. Spellable rows x)) (λ w good. good.1.0) (λ w at good. whole_message rows w at (rows_back rows w at good.0 good.1.1)) n num members l v base (sized_some rows (λ w. Spellable rows w) v s short)
    field_back (entries n k rows) v base num l s short =
        entries_back k rows laws (λ w. Sized rows w (λ x. Spellable rows x)) (λ w good. good.1.0) (λ w at good. whole_message rows w at (rows_back rows w at good.0 good.1.1)) n num v base (sized_entries k rows (λ w. Spellable rows w) v s.0 short) s.1

    rows_back : (rows : Rows) (vs : Fields Plain rows) (base : ℕ) → Spellable rows vs → lengths_fit rows vs → RowsBack rows vs base
    rows_back none vs base s short = none_back vs base
    rows_back (row & rows) vs base s short =
        together row rows vs base s.1 (field_back row vs.0 base (number_is row s.0) (listed_is row s.0) s.2 short.0)
        (rows_back rows vs.1 (base + length (field_records row vs.0)) s.3 short.1)

  pub message_reads_back : (rows : Rows) (vs : Fields Plain rows) (base : ℕ) → Spellable rows vs → lengths_fit rows vs → MessageBack rows vs base
  message_reads_back rows vs base s short = whole_message rows vs base (rows_back rows vs base s short)
