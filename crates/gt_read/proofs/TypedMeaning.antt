-- The values of a meaning are of their kinds: numbers fit, texts are UTF-8, identifiers have sixteen bytes.
use Rattle.std.proofs.Common.{◌≡◌, ℕ, ℤ, pos, negsuc, ◌^◌, ◌<◌, Bool, true, false, cond, eqb, List, [], ◌∷◌, ◌++◌, map, length, Option, Some, None, refl, sym, ap, subst, ◌∙◌, arith, replicate}
use Rattle.std.specs.Prelude.{◌&&◌, IfSome, IsUtf8, unwrap_or}
use Rattle.std.specs.Str.{is_utf8}
use Rattle.std.specs.declared.cmp.Ordering.{Ordering}
use Rattle.std.specs.declared.cmp.Ordering.TheVariants.{Less, Equal, Greater}
use Rattle.std.specs.Ordering.{match_ordering}
use Rattle.std.specs.BTreeMap.{insert_entry}
use Rattle.std.specs.Int.{w32, w64, cast_signed}
use Rattle.std.specs.List.{AllByRecursion, filter, filter_map, flat_map, cons_option, fold, list_all}
use Rattle.std.specs.Option.{option_map}
use Rattle.std.proofs.lemmas.Bool.{eqb-true}
use Rattle.std.proofs.lemmas.Str.{IsUtf8-from_is_utf8, IsUtf8-nil}
use Rattle.std.proofs.Math.Facts.{sfits_to_z}
use mir.Val.{SFits}
use Rattle.gt_model.specs.Schema.{Kind, Id, OptionalId, Text, Blob, Unsigned64, Signed64, Unsigned32, Signed32, Flag, Key, TextKey, NumberKey, key_kind, Members, Row, field, repeated, message, messages, member, member_message, entries, Rows, none, ◌&◌}
use Rattle.gt_model.specs.Typed.{AreBytes, IsId, IsU64, IsI64, IsI32}
use Rattle.gt_model.specs.Values.{Field, Fields, Plain}
use Rattle.gt_read.specs.declared.fault.FormatFault.{FormatFault}
use Rattle.gt_read.specs.declared.fault.FormatFault.TheVariants.{Utf8}
use Rattle.gt_read.specs.Pieces.{Carried, Number, Bytes, Fixed, Piece, pieces, broken}
use Rattle.gt_read.specs.Kinds.{Located, Read, low32, from_varint, from_bytes, from_carried, value_of, absent, packed, is_varint_kind, values_in, values_of, of_number, Run, run_in, run_of}
use Rattle.gt_read.specs.Meaning.{last, last_value, joined, joined_message, alone, trailing, is_member, last_turn, key_cmp, map_of, entry_of, meaning, field_meaning}
use Rattle.gt_read.specs.Faults.{text_faults, packed_faults, failed_at, in_run, at_number, message_faults, broken_faults, entry_faults, field_faults, piece_faults}
use Rattle.gt_read.specs.Identifiers.{fault_at, plain_bad, if_some, plain_of, bad, field_bad, plain, field_plain}
use Rattle.gt_read.proofs.GoodPieces.{GoodCarried, GoodPiece, ReadIsSpelled, pieces_good, packed_small}

-- ---- lists

pub append_none : {A : Type 0} (a b : List A) → a ++ b ≡ [] → (a ≡ []) × (b ≡ [])
append_none [] b e = (refl, e)
append_none (x ∷ xs) b e = absurd cc

pub each_none : {A B : Type 0} (f : A → List B) (xs : List A) → flat_map f xs ≡ [] → AllByRecursion (λ x. f x ≡ []) xs
each_none f [] e = tt
each_none f (x ∷ xs) e = let parts = append_none (f x) (flat_map f xs) e in (parts.0, each_none f xs parts.1)

all_append : {A : Type 0} (P : A → Type 0) (xs ys : List A) → AllByRecursion P xs → AllByRecursion P ys → AllByRecursion P (xs ++ ys)
all_append P [] ys a b = b
all_append P (x ∷ xs) ys a b = (a.0, all_append P xs ys a.1 b)

pub all_two : {A : Type 0} (P Q : A → Type 0) (xs : List A) → AllByRecursion P xs → AllByRecursion Q xs → AllByRecursion (λ x. P x × Q x) xs
all_two P Q [] p q = tt
all_two P Q (x ∷ xs) p q = ((p.0, q.0), all_two P Q xs p.1 q.1)

all_weaker : {A : Type 0} (P Q : A → Type 0) → ((a : A) → P a → Q a) → (xs : List A) → AllByRecursion P xs → AllByRecursion Q xs
all_weaker P Q f [] a = tt
all_weaker P Q f (x ∷ xs) a = (f x a.0, all_weaker P Q f xs a.1)

all_mapped : {A B : Type 0} (P : A → Type 0) (Q : B → Type 0) (f : A → B) → ((a : A) → P a → Q (f a)) → (xs : List A) → AllByRecursion P xs → AllByRecursion Q (map f xs)
all_mapped P Q f h [] a = tt
all_mapped P Q f h (x ∷ xs) a = (h x a.0, all_mapped P Q f h xs a.1)

all_flat : {A B : Type 0} (P : A → Type 0) (Q : B → Type 0) (f : A → List B) → ((a : A) → P a → AllByRecursion Q (f a)) → (xs : List A) → AllByRecursion P xs → AllByRecursion Q (flat_map f xs)
all_flat P Q f h [] a = tt
all_flat P Q f h (x ∷ xs) a = all_append Q (f x) (flat_map f xs) (h x a.0) (all_flat P Q f h xs a.1)

all_found : {A B : Type 0} (P : A → Type 0) (Q : B → Type 0) (f : A → Option B) → ((a : A) → P a → IfSome (f a) Q) → (xs : List A) → AllByRecursion P xs → AllByRecursion Q (filter_map f xs)
all_found P Q f h [] a = tt
all_found {B = B} P Q f h (x ∷ xs) a = put (f x) (filter_map f xs) (h x a.0) (all_found P Q f h xs a.1)
  where
    put : (o : Option B) (ys : List B) → IfSome o Q → AllByRecursion Q ys → AllByRecursion Q (cons_option o ys)
    put None ys q all = all
    put (Some y) ys q all = (q, all)

last_of : {A : Type 0} (P : A → Type 0) (xs : List A) (d : A) → AllByRecursion P xs → P d → P (unwrap_or (last xs) d)
last_of P [] d a p = p
last_of P (x ∷ xs) d a p = last_of P xs x a.1 a.0

last_if : {A : Type 0} (P : A → Type 0) (xs : List A) → AllByRecursion P xs → IfSome (last xs) P
last_if P [] a = tt
last_if P (x ∷ xs) a = last_of P xs x a.1 a.0

-- those that pass a test, and those of them that have a property where they pass it
all_passed : {A : Type 0} (P Q : A → Type 0) (test : A → Bool) → ((a : A) → test a ≡ true → P a → Q a) → (xs : List A) → AllByRecursion P xs → AllByRecursion Q (filter test xs)
all_passed P Q test h [] a = tt
all_passed P Q test h (x ∷ xs) a = by (test x) refl (all_passed P Q test h xs a.1)
  where
    by : (b : Bool) → test x ≡ b → AllByRecursion Q (filter test xs) → AllByRecursion Q (cond b (x ∷ filter test xs) (filter test xs))
    by true e more = (h x e a.0, more)
    by false e more = more

and_true : (a b : Bool) → a && b ≡ true → (a ≡ true) × (b ≡ true)
and_true true b e = (refl, e)
and_true false b e = absurd cc

all_pass : {A : Type 0} (P Q : A → Type 0) (test : A → Bool) → ((a : A) → test a ≡ true → P a → Q a) → (xs : List A) → list_all test xs ≡ true → AllByRecursion P xs → AllByRecursion Q xs
all_pass P Q test h [] e a = tt
all_pass P Q test h (x ∷ xs) e a = let parts = and_true (test x) (list_all test xs) e in (h x parts.0 a.0, all_pass P Q test h xs parts.1 a.1)

all_trailing : {A : Type 0} (P Q : A → Type 0) (test : A → Bool) → ((a : A) → test a ≡ true → P a → Q a) → (xs : List A) → AllByRecursion P xs → AllByRecursion Q (trailing test xs)
all_trailing P Q test h [] a = tt
all_trailing P Q test h (x ∷ xs) a = by (list_all test (x ∷ xs)) refl (all_trailing P Q test h xs a.1)
  where
    by : (b : Bool) → list_all test (x ∷ xs) ≡ b → AllByRecursion Q (trailing test xs) → AllByRecursion Q (cond b (x ∷ xs) (trailing test xs))
    by true e more = all_pass P Q test h (x ∷ xs) e a
    by false e more = more

-- ---- the records of a field

-- a record that carries what bytes can, with nothing wrong in it
abbrev Sound : (Piece → List FormatFault) → Piece → Type 0
Sound faults p = GoodPiece p × (faults p ≡ [])

abbrev RunSound : (ℕ → ℕ → List ℕ → List FormatFault) → Piece → Type 0
RunSound faults p = GoodPiece p × (in_run faults p.place p.carried ≡ [])

own_sound : (n : ℕ) (faults : ℕ → ℕ → List ℕ → List FormatFault) (p : Piece) → eqb p.number n ≡ true → Sound (at_number n faults) p → RunSound faults p
own_sound n faults p is s = (s.0, sym (ap (λ b. cond b (in_run faults p.place p.carried) []) is) ∙ s.1)

of_number_sound : (n : ℕ) (faults : ℕ → ℕ → List ℕ → List FormatFault) (ps : List Piece) → AllByRecursion (Sound (at_number n faults)) ps → AllByRecursion (RunSound faults) (of_number n ps)
of_number_sound n faults ps a = all_passed (Sound (at_number n faults)) (RunSound faults) (λ (p : Piece). eqb p.number n) (own_sound n faults) ps a

turn_sound : (members : Members) (n : ℕ) (faults : ℕ → ℕ → List ℕ → List FormatFault) (ps : List Piece) → AllByRecursion (Sound (at_number n faults)) ps → AllByRecursion (RunSound faults) (last_turn members n ps)
turn_sound members n faults ps a =
    all_trailing (Sound (at_number n faults)) (RunSound faults) (λ (p : Piece). eqb p.number n) (own_sound n faults) _
    (all_passed (Sound (at_number n faults)) (Sound (at_number n faults)) (is_member members) (λ p e s. s) ps a)

-- ---- plain values

abbrev pub TypedPlain : (k : Kind) → Plain k → Type 0
TypedPlain Id id = IsId id
TypedPlain OptionalId id = IfSome id IsId
TypedPlain Text text = IsUtf8 text
TypedPlain Blob bytes = AreBytes bytes
TypedPlain Unsigned64 n = IsU64 n
TypedPlain Signed64 z = IsI64 z
TypedPlain Unsigned32 n = n < 2 ^ 32
TypedPlain Signed32 z = IsI32 z
TypedPlain Flag b = Unit {0}

-- as it was read, an identifier may have any length
abbrev ReadGood : (k : Kind) → Read k → Type 0
ReadGood Id id = AreBytes id.bytes
ReadGood OptionalId id = AreBytes id.bytes
ReadGood Text text = IsUtf8 text
ReadGood Blob bytes = AreBytes bytes
ReadGood Unsigned64 n = IsU64 n
ReadGood Signed64 z = IsI64 z
ReadGood Unsigned32 n = n < 2 ^ 32
ReadGood Signed32 z = IsI32 z
ReadGood Flag b = Unit {0}

i64_fits : (z : ℤ) → SFits w64 z → IsI64 z
i64_fits (pos n) h = h.sfits
i64_fits (negsuc n) h = h.sfits

i32_fits : (z : ℤ) → SFits w32 z → IsI32 z
i32_fits (pos n) h = h.sfits
i32_fits (negsuc n) h = h.sfits

low_fits : (n : ℕ) → low32 n < 2 ^ 32
low_fits n = omega arith

varint_good : (k : Kind) (n : ℕ) → n < 2 ^ 64 → IfSome (from_varint k n) (ReadGood k)
varint_good Id n h = tt
varint_good OptionalId n h = tt
varint_good Text n h = tt
varint_good Blob n h = tt
varint_good Unsigned64 n h = h
varint_good Signed64 n h = i64_fits (cast_signed w64 n) (sfits_to_z (record { fits = h }))
varint_good Unsigned32 n h = low_fits n
varint_good Signed32 n h = i32_fits (cast_signed w32 (low32 n)) (sfits_to_z (record { fits = low_fits n }))
varint_good Flag n h = tt

is_text : (place : ℕ) (bytes : List ℕ) → text_faults Text place bytes ≡ [] → IsUtf8 bytes
is_text place bytes e = by (is_utf8 bytes) refl e
  where
    by : (b : Bool) → is_utf8 bytes ≡ b → cond b [] (Utf8 place ∷ []) ≡ [] → IsUtf8 bytes
    by true is e = IsUtf8-from_is_utf8 bytes is
    by false is e = absurd cc

bytes_good : (k : Kind) (place : ℕ) (bytes : List ℕ) → AreBytes bytes → text_faults k place bytes ≡ [] → IfSome (from_bytes k place bytes) (ReadGood k)
bytes_good Id place bytes b e = b
bytes_good OptionalId place bytes b e = b
bytes_good Text place bytes b e = is_text place bytes e
bytes_good Blob place bytes b e = b
bytes_good Unsigned64 place bytes b e = tt
bytes_good Signed64 place bytes b e = tt
bytes_good Unsigned32 place bytes b e = tt
bytes_good Signed32 place bytes b e = tt
bytes_good Flag place bytes b e = tt

carried_good : (k : Kind) (place : ℕ) (c : Carried) → GoodCarried c → in_run (λ place start bytes. text_faults k place bytes) place c ≡ [] → IfSome (from_carried k place c) (ReadGood k)
carried_good k place (Number n) g e = varint_good k n g
carried_good k place (Bytes start bytes) g e = bytes_good k place bytes g e
carried_good k place Fixed g e = tt

absent_good : (k : Kind) (place : ℕ) → ReadGood k (absent k place)
absent_good Id place = tt
absent_good OptionalId place = tt
absent_good Text place = IsUtf8-nil
absent_good Blob place = tt
absent_good Unsigned64 place = omega arith
absent_good Signed64 place = omega arith
absent_good Unsigned32 place = omega arith
absent_good Signed32 place = omega arith
absent_good Flag place = tt

id_typed : (id : Located) → AreBytes id.bytes → plain_bad Id id ≡ [] → IsId (plain_of Id id)
id_typed id b e = by (eqb (length id.bytes) 16) refl e
  where
    by : (t : Bool) → eqb (length id.bytes) 16 ≡ t → cond t [] (fault_at id) ≡ [] → IsId (plain_of Id id)
    by true is e = subst IsId (sym (ap (λ t. cond t id.bytes (replicate 16 0)) is)) (record { len = eqb-true _ _ is; bytes = b })
    by false is e = absurd cc

optional_typed : (id : Located) → AreBytes id.bytes → IfSome (plain_of OptionalId id) IsId
optional_typed id b = by (eqb (length id.bytes) 16) refl
  where
    by : (t : Bool) → eqb (length id.bytes) 16 ≡ t → IfSome (cond t (Some id.bytes) None) IsId
    by true is = record { len = eqb-true _ _ is; bytes = b }
    by false is = tt

read_typed : (k : Kind) (v : Read k) → ReadGood k v → plain_bad k v ≡ [] → TypedPlain k (plain_of k v)
read_typed Id v g e = id_typed v g e
read_typed OptionalId v g e = optional_typed v g
read_typed Text v g e = g
read_typed Blob v g e = g
read_typed Unsigned64 v g e = g
read_typed Signed64 v g e = g
read_typed Unsigned32 v g e = g
read_typed Signed32 v g e = g
read_typed Flag v g e = g

value_good : (k : Kind) (p : Piece) → RunSound (λ place start bytes. text_faults k place bytes) p → IfSome (value_of k p) (ReadGood k)
value_good k p s = carried_good k p.place p.carried s.0 s.1

last_good : (k : Kind) (first : ℕ) (ps : List Piece) → AllByRecursion (RunSound (λ place start bytes. text_faults k place bytes)) ps → ReadGood k (unwrap_or (last_value k ps) (absent k first))
last_good k first ps a = last_of (ReadGood k) (filter_map (value_of k) ps) (absent k first) (all_found _ (ReadGood k) (value_of k) (value_good k) ps a) (absent_good k first)

some_typed : (k : Kind) (o : Option (Read k)) → IfSome o (ReadGood k) → if_some (plain_bad k) o ≡ [] → IfSome (option_map (plain_of k) o) (TypedPlain k)
some_typed k None g e = tt
some_typed k (Some v) g e = read_typed k v g e

-- ---- repeated values

module _ (read : ReadIsSpelled) where
  values_good : (k : Kind) (place : ℕ) (c : Carried) → GoodCarried c → in_run (λ place start bytes. packed_faults k place bytes) place c ≡ [] → AllByRecursion (ReadGood k) (values_in k place c)
  values_good k place (Number n) g e = all_found (λ m. m < 2 ^ 64) (ReadGood k) (from_varint k) (varint_good k) (n ∷ []) (g, tt)
  values_good k place Fixed g e = tt
  values_good k place (Bytes start bytes) g e = by (is_varint_kind k) e
    where
      by : (t : Bool) → cond t (failed_at place (packed bytes).failed) (text_faults k place bytes) ≡ [] → AllByRecursion (ReadGood k) (cond t (filter_map (from_varint k) (packed bytes).numbers) (filter_map (from_bytes k place) (bytes ∷ [])))
      by true e = all_found (λ m. m < 2 ^ 64) (ReadGood k) (from_varint k) (varint_good k) (packed bytes).numbers (packed_small read bytes g)
      by false e = all_found (λ b. AreBytes b × (text_faults k place b ≡ [])) (ReadGood k) (from_bytes k place) (λ b h. bytes_good k place b h.0 h.1) (bytes ∷ []) ((g, e), tt)

  repeated_typed : (k : Kind) (ps : List Piece) → AllByRecursion (RunSound (λ place start bytes. packed_faults k place bytes)) ps → flat_map (plain_bad k) (flat_map (values_of k) ps) ≡ []
      → AllByRecursion (TypedPlain k) (map (plain_of k) (flat_map (values_of k) ps))
  repeated_typed k ps a e =
      let vs = flat_map (values_of k) ps in
      let good : AllByRecursion (ReadGood k) vs = all_flat _ (ReadGood k) (values_of k) (λ (p : Piece) s. values_good k p.place p.carried s.0 s.1) ps a in
      all_mapped (λ v. ReadGood k v × (plain_bad k v ≡ [])) (TypedPlain k) (plain_of k) (λ v h. read_typed k v h.0 h.1) vs (all_two (ReadGood k) (λ v. plain_bad k v ≡ []) vs good (each_none (plain_bad k) vs e))

-- ---- messages

unfoldable mutual
  pub FieldTyped : (row : Row) → Field Plain row → Type 0
  FieldTyped (field number k) v = TypedPlain k v
  FieldTyped (repeated number k) vs = AllByRecursion (TypedPlain k) vs
  FieldTyped (message number rows) v = IfSome v (λ w. RowsTyped rows w)
  FieldTyped (messages number rows) vs = AllByRecursion (λ w. RowsTyped rows w) vs
  FieldTyped (member members number k) v = IfSome v (TypedPlain k)
  FieldTyped (member_message members number rows) v = IfSome v (λ w. RowsTyped rows w)
  FieldTyped (entries number k rows) es = AllByRecursion (λ (e : Plain (key_kind k) × Fields Plain rows). TypedPlain (key_kind k) e.0 × RowsTyped rows e.1) es

  pub RowsTyped : (rows : Rows) → Fields Plain rows → Type 0
  RowsTyped none vs = Unit {0}
  RowsTyped (row & rows) vs = FieldTyped row vs.0 × RowsTyped rows vs.1

module _ (read : ReadIsSpelled) (rows : Rows) where
  abbrev inside : ℕ → List Piece → Fields Read rows
  inside place ps = meaning rows place ps

  abbrev run_faults : ℕ → ℕ → List ℕ → List FormatFault
  run_faults place start bytes = message_faults (λ q. piece_faults rows q) bytes start

  -- a message whose identifiers have their lengths is typed
  abbrev Typed : Fields Read rows → Type 0
  Typed w = bad rows w ≡ [] → RowsTyped rows (plain rows w)

  module _ (inner : (place : ℕ) (ps : List Piece) → AllByRecursion (Sound (piece_faults rows)) ps → Typed (inside place ps)) where
    -- a run whose records are sound
    abbrev SoundRun : Run → Type 0
    SoundRun r = AllByRecursion (Sound (piece_faults rows)) (pieces r.bytes r.start)

    pub run_sound : (p : Piece) → RunSound run_faults p → IfSome (run_of p) SoundRun
    run_sound p s = by p.place p.carried s.0 s.1
      where
        by : (place : ℕ) (c : Carried) → GoodCarried c → in_run run_faults place c ≡ [] → IfSome (run_in place c) SoundRun
        by place (Number n) g e = tt
        by place (Bytes start bytes) g e =
            let none = (append_none (flat_map (λ q. piece_faults rows q) (pieces bytes start)) (broken_faults (broken bytes start)) e).0 in
            all_two GoodPiece (λ p. piece_faults rows p ≡ []) (pieces bytes start) (pieces_good read bytes start g) (each_none (λ q. piece_faults rows q) (pieces bytes start) none)
        by place Fixed g e = tt

    joined_typed : (rs : List Run) → AllByRecursion SoundRun rs → IfSome (joined inside rs) Typed
    joined_typed [] a = tt
    joined_typed (r ∷ rs) a = inner r.place (flat_map (λ (s : Run). pieces s.bytes s.start) (r ∷ rs)) (all_flat SoundRun (Sound (piece_faults rows)) (λ (s : Run). pieces s.bytes s.start) (λ s h. h) (r ∷ rs) a)

    pub message_typed : (ps : List Piece) → AllByRecursion (RunSound run_faults) ps → IfSome (joined_message inside ps) Typed
    message_typed ps a = joined_typed (filter_map run_of ps) (all_found (RunSound run_faults) SoundRun run_of run_sound ps a)

    pub option_typed : (o : Option (Fields Read rows)) → IfSome o Typed → if_some (λ w. bad rows w) o ≡ [] → IfSome (option_map (λ w. plain rows w) o) (λ w. RowsTyped rows w)
    option_typed None t e = tt
    option_typed (Some w) t e = t e

    pub messages_typed : (ps : List Piece) → AllByRecursion (RunSound run_faults) ps → flat_map (λ w. bad rows w) (map (alone inside) (filter_map run_of ps)) ≡ []
        → AllByRecursion (λ w. RowsTyped rows w) (map (λ w. plain rows w) (map (alone inside) (filter_map run_of ps)))
    messages_typed ps a e =
        let rs = filter_map run_of ps in
        let ws = map (alone inside) rs in
        let typed : AllByRecursion Typed ws = all_mapped SoundRun Typed (alone inside) (λ r s. inner r.place (pieces r.bytes r.start) s) rs (all_found (RunSound run_faults) SoundRun run_of run_sound ps a) in
        all_mapped (λ w. Typed w × (bad rows w ≡ [])) (λ w. RowsTyped rows w) (λ w. plain rows w) (λ w h. h.0 h.1) ws (all_two Typed (λ w. bad rows w ≡ []) ws typed (each_none (λ w. bad rows w) ws e))

    -- ---- maps

    module _ (k : Key) where
      abbrev entry_run_faults : ℕ → ℕ → List ℕ → List FormatFault
      entry_run_faults place start bytes = message_faults (entry_faults k (λ inner base. message_faults (λ q. piece_faults rows q) inner base)) bytes start

      abbrev TypedEntry : Read (key_kind k) × Fields Read rows → Type 0
      TypedEntry e = ReadGood (key_kind k) e.0 × Typed e.1

      inserted : {K V : Type 0} (cmp : K → K → Ordering) (P : K → Type 0) (Q : V → Type 0) (es : List (K × V)) (key : K) (v : V) → AllByRecursion (λ (e : K × V). P e.0 × Q e.1) es → P key → Q v
          → AllByRecursion (λ (e : K × V). P e.0 × Q e.1) (insert_entry cmp es key v)
      inserted cmp P Q [] key v a p q = ((p, q), tt)
      inserted {K = K} {V = V} cmp P Q (e ∷ es) key v a p q = by (cmp key e.0) (inserted cmp P Q es key v a.1 p q)
        where
          by : (o : Ordering) → AllByRecursion (λ (e : K × V). P e.0 × Q e.1) (insert_entry cmp es key v) → AllByRecursion (λ (e : K × V). P e.0 × Q e.1) (match_ordering o ((key, v) ∷ e ∷ es) ((e.0, v) ∷ es) (e ∷ insert_entry cmp es key v))
          by Less h = ((p, q), a)
          by Equal h = ((a.0.0, q), a.1)
          by Greater h = (a.0, h)

      folded : (es m : List (Read (key_kind k) × Fields Read rows)) → AllByRecursion TypedEntry es → AllByRecursion TypedEntry m → AllByRecursion TypedEntry (fold (λ n (e : Read (key_kind k) × Fields Read rows). insert_entry (key_cmp k) n e.0 e.1) m es)
      folded [] m a b = b
      folded (e ∷ es) m a b = folded es (insert_entry (key_cmp k) m e.0 e.1) a.1 (inserted (key_cmp k) (ReadGood (key_kind k)) Typed m e.0 e.1 b a.0.0 a.0.1)

      entry_typed : (r : Run) → AreBytes r.bytes → entry_run_faults r.place r.start r.bytes ≡ [] → TypedEntry (entry_of k inside r)
      entry_typed r b e =
          let ps = pieces r.bytes r.start in
          let faults : Piece → List FormatFault = entry_faults k (λ inner base. message_faults (λ q. piece_faults rows q) inner base) in
          let none = (append_none (flat_map faults ps) (broken_faults (broken r.bytes r.start)) e).0 in
          let good = pieces_good read r.bytes r.start b in
          let sound : AllByRecursion (λ p. GoodPiece p × (faults p ≡ [])) ps = all_two GoodPiece (λ p. faults p ≡ []) ps good (each_none faults ps none) in
          let keys = all_weaker (λ p. GoodPiece p × (faults p ≡ [])) (Sound (at_number 1 (λ place start bytes. text_faults (key_kind k) place bytes))) (λ p h. (h.0, (append_none _ _ h.1).0)) ps sound in
          let values = all_weaker (λ p. GoodPiece p × (faults p ≡ [])) (Sound (at_number 2 run_faults)) (λ p h. (h.0, (append_none _ _ h.1).1)) ps sound in
          let value = message_typed (of_number 2 ps) (of_number_sound 2 run_faults ps values) in
          (last_good (key_kind k) r.place (of_number 1 ps) (of_number_sound 1 (λ place start bytes. text_faults (key_kind k) place bytes) ps keys), or_empty (joined_message inside (of_number 2 ps)) value)
        where
          or_empty : (o : Option (Fields Read rows)) → IfSome o Typed → Typed (unwrap_or o (inside r.place []))
          or_empty None t = inner r.place [] tt
          or_empty (Some w) t = t

      entry_run : (p : Piece) → RunSound entry_run_faults p → IfSome (run_of p) (λ r. AreBytes r.bytes × (entry_run_faults r.place r.start r.bytes ≡ []))
      entry_run p s = by p.place p.carried s.0 s.1
        where
          by : (place : ℕ) (c : Carried) → GoodCarried c → in_run entry_run_faults place c ≡ [] → IfSome (run_in place c) (λ r. AreBytes r.bytes × (entry_run_faults r.place r.start r.bytes ≡ []))
          by place (Number n) g e = tt
          by place (Bytes start bytes) g e = (g, e)
          by place Fixed g e = tt

      pub entries_typed : (ps : List Piece) → AllByRecursion (RunSound entry_run_faults) ps
          → flat_map (λ (e : Read (key_kind k) × Fields Read rows). bad rows e.1) (map_of (key_cmp k) (map (entry_of k inside) (filter_map run_of ps))) ≡ []
          → AllByRecursion (λ (e : Plain (key_kind k) × Fields Plain rows). TypedPlain (key_kind k) e.0 × RowsTyped rows e.1)
          (map (λ (e : Read (key_kind k) × Fields Read rows). (plain_of (key_kind k) e.0, plain rows e.1)) (map_of (key_cmp k) (map (entry_of k inside) (filter_map run_of ps))))
      entries_typed ps a e =
          let rs = filter_map run_of ps in
          let sound = all_found (RunSound entry_run_faults) (λ r. AreBytes r.bytes × (entry_run_faults r.place r.start r.bytes ≡ [])) run_of entry_run ps a in
          let es = map_of (key_cmp k) (map (entry_of k inside) rs) in
          let typed : AllByRecursion TypedEntry es = folded (map (entry_of k inside) rs) [] (all_mapped (λ r. AreBytes r.bytes × (entry_run_faults r.place r.start r.bytes ≡ [])) TypedEntry (entry_of k inside) (λ r h. entry_typed r h.0 h.1) rs sound) tt in
          all_mapped (λ x. TypedEntry x × (bad rows x.1 ≡ [])) (λ (e : Plain (key_kind k) × Fields Plain rows). TypedPlain (key_kind k) e.0 × RowsTyped rows e.1)
          (λ (x : Read (key_kind k) × Fields Read rows). (plain_of (key_kind k) x.0, plain rows x.1)) (λ x h. (key_typed k x.0 h.0.0, h.0.1 h.1)) es
          (all_two TypedEntry (λ x. bad rows x.1 ≡ []) es typed (each_none (λ (x : Read (key_kind k) × Fields Read rows). bad rows x.1) es e))
        where
          key_typed : (k : Key) (v : Read (key_kind k)) → ReadGood (key_kind k) v → TypedPlain (key_kind k) (plain_of (key_kind k) v)
          key_typed TextKey v g = g
          key_typed NumberKey v g = g

-- ---- every field

module _ (read : ReadIsSpelled) where
  mutual
    unfolding RowsTyped meaning plain bad piece_faults

    field_typed : (row : Row) (first : ℕ) (ps : List Piece) → AllByRecursion (Sound (field_faults row)) ps → field_bad row (field_meaning row first ps) ≡ [] → FieldTyped row (field_plain row (field_meaning row first ps))
    field_typed (field n k) first ps s e = read_typed k _ (last_good k first (of_number n ps) (of_number_sound n (λ place start bytes. text_faults k place bytes) ps s)) e
    field_typed (repeated n k) first ps s e = repeated_typed read k (of_number n ps) (of_number_sound n (λ place start bytes. packed_faults k place bytes) ps s) e
    field_typed (message n rows) first ps s e =
        let inner = λ (place : ℕ) (qs : List Piece) (h : AllByRecursion (Sound (piece_faults rows)) qs). rows_typed rows place qs h in
        option_typed read rows inner _ (message_typed read rows inner (of_number n ps) (of_number_sound n (run_faults read rows) ps s)) e
    field_typed (messages n rows) first ps s e =
        messages_typed read rows (λ place qs h. rows_typed rows place qs h) (of_number n ps) (of_number_sound n (run_faults read rows) ps s) e
    field_typed (member members n k) first ps s e =
        some_typed k _ (last_if (ReadGood k) _ (all_found _ (ReadGood k) (value_of k) (value_good k) (last_turn members n ps) (turn_sound members n (λ place start bytes. text_faults k place bytes) ps s))) e
    field_typed (member_message members n rows) first ps s e =
        let inner = λ (place : ℕ) (qs : List Piece) (h : AllByRecursion (Sound (piece_faults rows)) qs). rows_typed rows place qs h in
        option_typed read rows inner _ (message_typed read rows inner (last_turn members n ps) (turn_sound members n (run_faults read rows) ps s)) e
    field_typed (entries n k rows) first ps s e =
        entries_typed read rows (λ place qs h. rows_typed rows place qs h) k (of_number n ps) (of_number_sound n (λ place start bytes. message_faults (entry_faults k (λ inner base. message_faults (λ q. piece_faults rows q) inner base)) bytes start) ps s) e

    pub rows_typed : (rows : Rows) (first : ℕ) (ps : List Piece) → AllByRecursion (Sound (piece_faults rows)) ps → bad rows (meaning rows first ps) ≡ [] → RowsTyped rows (plain rows (meaning rows first ps))
    rows_typed none first ps s e = tt
    rows_typed (row & rows) first ps s e =
        let parts = append_none (field_bad row (field_meaning row first ps)) (bad rows (meaning rows first ps)) e in (
          field_typed row first ps (all_weaker _ (Sound (field_faults row)) (λ p h. (h.0, (append_none _ _ h.1).0)) ps s) parts.0,
          rows_typed rows first ps (all_weaker _ (Sound (piece_faults rows)) (λ p h. (h.0, (append_none _ _ h.1).1)) ps s) parts.1,
        )
