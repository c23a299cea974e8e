-- Records that don't bear on a field.
use Rattle.std.proofs.Common.{◌≡◌, ℕ, Bool, true, false, cond, List, [], ◌∷◌, ◌++◌, map, refl, sym, ap, subst, ◌∙◌}
use Rattle.std.specs.Prelude.{◌==◌, ◌&&◌, ◌||◌, not, is_none, unwrap_or}
use Rattle.std.specs.List.{AllByRecursion, filter, filter_map, flat_map, list_all, list_any}
use Rattle.std.proofs.lemmas.List.{append-nil}
use Rattle.std.proofs.lemmas.List.Elements.{filter-append}
use Rattle.gt_model.specs.Schema.{Members, Row, field, repeated, message, messages, member, member_message, entries}
use Rattle.gt_model.specs.Values.{Plain, Field}
use Rattle.gt_read.specs.Pieces.{Piece}
use Rattle.gt_read.specs.Kinds.{of_number, values_of, absent, run_of}
use Rattle.gt_read.specs.Meaning.{field_meaning, meaning, is_member, wire_of, trailing, last_turn, last_value, joined_message, alone, map_of, key_cmp, entry_of}
use Rattle.gt_read.specs.declared.fault.FormatFault.{FormatFault}
use Rattle.gt_read.specs.Faults.{at_number, in_run, field_faults, piece_faults, text_faults, packed_faults, message_faults, entry_faults}

-- the number of a field, and its oneof
abbrev pub number_of : Row → ℕ
number_of (field number k) = number
number_of (repeated number k) = number
number_of (message number rows) = number
number_of (messages number rows) = number
number_of (member members number k) = number
number_of (member_message members number rows) = number
number_of (entries number k rows) = number

abbrev pub members_of : Row → Members
members_of (field number k) = []
members_of (repeated number k) = []
members_of (message number rows) = []
members_of (messages number rows) = []
members_of (member members number k) = members
members_of (member_message members number rows) = members
members_of (entries number k rows) = []

-- whether a field may have records: a member of a oneof has them where it is set
abbrev pub is_set : (row : Row) → Field Plain row → Bool
is_set (field number k) v = true
is_set (repeated number k) v = true
is_set (message number rows) v = true
is_set (messages number rows) v = true
is_set (member members number k) v = not (is_none v)
is_set (member_message members number rows) v = not (is_none v)
is_set (entries number k rows) v = true

abbrev pub is_number_of : ℕ → Members → Bool
is_number_of n members = list_any (λ (m : ℕ × ℕ). n == m.0) members

-- whether a record bears on a field of the value
abbrev pub touches : (row : Row) → Field Plain row → Piece → Bool
touches row v p = (p.number == number_of row) || (is_set row v && is_member (members_of row) p)

-- whether the records of a field bear on another
abbrev pub disturbs : (row : Row) → Field Plain row → (other : Row) → Field Plain other → Bool
disturbs row v other w = is_set row v && ((number_of row == number_of other) || (is_set other w && is_number_of (number_of row) (members_of other)))

abbrev pub Untouched : (row : Row) → Field Plain row → List Piece → Type 0
Untouched row v ps = AllByRecursion (λ p. touches row v p ≡ false) ps

-- ---- Booleans

or_false : (a b : Bool) → a || b ≡ false → (a ≡ false) × (b ≡ false)
or_false true b e = absurd cc
or_false false b e = (refl, e)

or_neither : (a b : Bool) → a ≡ false → b ≡ false → a || b ≡ false
or_neither true b e f = absurd cc
or_neither false b e f = f

and_second : (a b : Bool) → b ≡ false → a && b ≡ false
and_second true b e = e
and_second false b e = refl

and_false : (a b : Bool) → a && b ≡ false → a ≡ true → b ≡ false
and_false true b e f = e
and_false false b e f = absurd cc

-- ---- from numbers to records

not_member : (n wire : ℕ) (members : Members) → is_number_of n members ≡ false → list_any (λ (m : ℕ × ℕ). (n == m.0) && (wire == m.1)) members ≡ false
not_member n wire [] e = refl
not_member n wire (m ∷ ms) e =
    let parts = or_false (n == m.0) (is_number_of n ms) e in
    or_neither _ _ (and_first (n == m.0) (wire == m.1) parts.0) (not_member n wire ms parts.1)
  where
    and_first : (a b : Bool) → a ≡ false → a && b ≡ false
    and_first true b e = absurd cc
    and_first false b e = refl

bears_not : (row other : Row) (w : Field Plain other) (p : Piece) → p.number ≡ number_of row → (b : Bool) → is_set other w ≡ b → is_set other w && is_number_of (number_of row) (members_of other) ≡ false → is_set other w && is_member (members_of other) p ≡ false
bears_not row other w p is true e apart =
    let none : is_number_of (number_of row) (members_of other) ≡ false = and_false _ _ apart e in
    and_second (is_set other w) _ (not_member p.number (wire_of p.carried) (members_of other) (ap (λ n. is_number_of n (members_of other)) is ∙ none))
bears_not row other w p is false e apart = ap (λ b. b && is_member (members_of other) p) e

untouched_one : (row : Row) (v : Field Plain row) (other : Row) (w : Field Plain other) (p : Piece) → is_set row v ≡ true → disturbs row v other w ≡ false → p.number ≡ number_of row → touches other w p ≡ false
untouched_one row v other w p set apart is =
    let parts = or_false _ _ (and_false _ _ apart set) in
    or_neither _ _ (ap (λ n. n == number_of other) is ∙ parts.0) (bears_not row other w p is (is_set other w) refl parts.1)

-- the records of a field don't bear on one that it doesn't disturb
pub untouched : (row : Row) (v : Field Plain row) (other : Row) (w : Field Plain other) (ps : List Piece) → (is_set row v ≡ false → ps ≡ []) → disturbs row v other w ≡ false → AllByRecursion (λ p. p.number ≡ number_of row) ps
    → Untouched other w ps
untouched row v other w ps unset apart are = by (is_set row v) refl
  where
    all : (ps : List Piece) → is_set row v ≡ true → AllByRecursion (λ p. p.number ≡ number_of row) ps → Untouched other w ps
    all [] e a = tt
    all (p ∷ ps) e a = (untouched_one row v other w p e apart a.0, all ps e a.1)

    by : (b : Bool) → is_set row v ≡ b → Untouched other w ps
    by true e = all ps e are
    by false e = subst (Untouched other w) (sym (unset e)) tt

-- ---- a field among the records of others

pub all_append : {A : Type 0} (P : A → Type 0) (xs ys : List A) → AllByRecursion P xs → AllByRecursion P ys → AllByRecursion P (xs ++ ys)
all_append P [] ys a b = b
all_append P (x ∷ xs) ys a b = (a.0, all_append P xs ys a.1 b)

pub all_weaker : {A : Type 0} (P Q : A → Type 0) → ((a : A) → P a → Q a) → (xs : List A) → AllByRecursion P xs → AllByRecursion Q xs
all_weaker P Q f [] a = tt
all_weaker P Q f (x ∷ xs) a = (f x a.0, all_weaker P Q f xs a.1)

filter_none : {A : Type 0} (test : A → Bool) (xs : List A) → AllByRecursion (λ x. test x ≡ false) xs → filter test xs ≡ []
filter_none test [] a = refl
filter_none test (x ∷ xs) a = ap (λ b. cond b (x ∷ filter test xs) (filter test xs)) a.0 ∙ filter_none test xs a.1

filter_among : {A : Type 0} (test : A → Bool) (before own after : List A) → AllByRecursion (λ x. test x ≡ false) before → AllByRecursion (λ x. test x ≡ false) after → filter test (before ++ (own ++ after)) ≡ filter test own
filter_among {A = A} test before own after b a =
    filter-append test before (own ++ after) ∙ ap (λ (l : List A). l ++ filter test (own ++ after)) (filter_none test before b)
    ∙ filter-append test own after ∙ ap (λ (l : List A). filter test own ++ l) (filter_none test after a) ∙ append-nil (filter test own)

filter_all : {A : Type 0} (P : A → Type 0) (test : A → Bool) (xs : List A) → AllByRecursion P xs → AllByRecursion P (filter test xs)
filter_all P test [] a = tt
filter_all P test (x ∷ xs) a = by (test x) (filter_all P test xs a.1)
  where
    by : (b : Bool) → AllByRecursion P (filter test xs) → AllByRecursion P (cond b (x ∷ filter test xs) (filter test xs))
    by true h = (a.0, h)
    by false h = h

trailing_none : {A : Type 0} (test : A → Bool) (xs : List A) → AllByRecursion (λ x. test x ≡ false) xs → trailing test xs ≡ []
trailing_none test [] a = refl
trailing_none test (x ∷ xs) a = ap (λ b. cond (b && list_all test xs) (x ∷ xs) (trailing test xs)) a.0 ∙ trailing_none test xs a.1

abbrev Bears : Members → ℕ → Bool → Piece → Bool
Bears members n set p = (p.number == n) || (set && is_member members p)

turn_among : (members : Members) (n : ℕ) (set : Bool) (before own after : List Piece) → (set ≡ false → own ≡ []) → AllByRecursion (λ p. Bears members n set p ≡ false) before → AllByRecursion (λ p. Bears members n set p ≡ false) after
    → last_turn members n (before ++ (own ++ after)) ≡ last_turn members n own
turn_among members n true before own after unset b a =
    let not_members : (ps : List Piece) → AllByRecursion (λ p. Bears members n true p ≡ false) ps → AllByRecursion (λ p. is_member members p ≡ false) ps =
    λ ps all. all_weaker _ _ (λ (p : Piece) e. (or_false _ _ e).1) ps all in
    ap (trailing (λ (p : Piece). p.number == n)) (filter_among (is_member members) before own after (not_members before b) (not_members after a))
turn_among members n false before own after unset b a =
    let nothing : own ≡ [] = unset refl in
    let others : (ps : List Piece) → AllByRecursion (λ p. Bears members n false p ≡ false) ps → AllByRecursion (λ p. (p.number == n) ≡ false) ps =
    λ ps all. all_weaker _ _ (λ (p : Piece) e. (or_false _ _ e).0) ps all in
    let all : AllByRecursion (λ (p : Piece). (p.number == n) ≡ false) (before ++ ([] ++ after)) = all_append _ before ([] ++ after) (others before b) (others after a) in
    ap (λ ps. last_turn members n (before ++ (ps ++ after))) nothing
    ∙ trailing_none (λ (p : Piece). p.number == n) (filter (is_member members) (before ++ ([] ++ after))) (filter_all _ (is_member members) (before ++ ([] ++ after)) all)
    ∙ sym (ap (last_turn members n) nothing)

number_among : (n : ℕ) (set : Bool) (before own after : List Piece) → AllByRecursion (λ p. Bears [] n set p ≡ false) before → AllByRecursion (λ p. Bears [] n set p ≡ false) after
    → of_number n (before ++ (own ++ after)) ≡ of_number n own
number_among n set before own after b a =
    let others : (ps : List Piece) → AllByRecursion (λ p. Bears [] n set p ≡ false) ps → AllByRecursion (λ p. (p.number == n) ≡ false) ps =
    λ ps all. all_weaker _ _ (λ (p : Piece) e. (or_false _ _ e).0) ps all in
    filter_among (λ (p : Piece). p.number == n) before own after (others before b) (others after a)

pub field_among : (row : Row) (v : Field Plain row) (first : ℕ) (before own after : List Piece) → (is_set row v ≡ false → own ≡ []) → Untouched row v before → Untouched row v after
    → field_meaning row first (before ++ (own ++ after)) ≡ field_meaning row first own
unfolding meaning
field_among (field n k) v first before own after unset b a = ap (λ ps. unwrap_or (last_value k ps) (absent k first)) (number_among n true before own after b a)
field_among (repeated n k) v first before own after unset b a = ap (flat_map (values_of k)) (number_among n true before own after b a)
field_among (message n rows) v first before own after unset b a = ap (joined_message (λ place qs. meaning rows place qs)) (number_among n true before own after b a)
field_among (messages n rows) v first before own after unset b a = ap (λ ps. map (alone (λ place qs. meaning rows place qs)) (filter_map run_of ps)) (number_among n true before own after b a)
field_among (member members n k) v first before own after unset b a = ap (last_value k) (turn_among members n (not (is_none v)) before own after unset b a)
field_among (member_message members n rows) v first before own after unset b a = ap (joined_message (λ place qs. meaning rows place qs)) (turn_among members n (not (is_none v)) before own after unset b a)
field_among (entries n k rows) v first before own after unset b a = ap (λ ps. map_of (key_cmp k) (map (entry_of k (λ place qs. meaning rows place qs)) (filter_map run_of ps))) (number_among n true before own after b a)

-- a record of another number is no fault of the field
elsewhere : (n : ℕ) (faults : ℕ → ℕ → List ℕ → List FormatFault) (p : Piece) → (p.number == n) ≡ false → at_number n faults p ≡ []
elsewhere n faults p e = ap (λ b. cond b (in_run faults p.place p.carried) []) e

pub no_faults : (row : Row) (p : Piece) → (p.number == number_of row) ≡ false → field_faults row p ≡ []
unfolding piece_faults
no_faults (field n k) p e = elsewhere n (λ place start bytes. text_faults k place bytes) p e
no_faults (repeated n k) p e = elsewhere n (λ place start bytes. packed_faults k place bytes) p e
no_faults (message n rows) p e = elsewhere n (λ place start bytes. message_faults (λ q. piece_faults rows q) bytes start) p e
no_faults (messages n rows) p e = elsewhere n (λ place start bytes. message_faults (λ q. piece_faults rows q) bytes start) p e
no_faults (member members n k) p e = elsewhere n (λ place start bytes. text_faults k place bytes) p e
no_faults (member_message members n rows) p e = elsewhere n (λ place start bytes. message_faults (λ q. piece_faults rows q) bytes start) p e
no_faults (entries n k rows) p e = elsewhere n (λ place start bytes. message_faults (entry_faults k (λ inner base. message_faults (λ q. piece_faults rows q) inner base)) bytes start) p e

pub untouched_faults : (row : Row) (v : Field Plain row) (ps : List Piece) → Untouched row v ps → AllByRecursion (λ p. field_faults row p ≡ []) ps
untouched_faults row v ps u = all_weaker _ _ (λ (p : Piece) e. no_faults row p (or_false _ _ e).0) ps u
