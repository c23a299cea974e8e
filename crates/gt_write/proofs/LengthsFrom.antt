-- Where the whole spelling fits, every length in it does.
use Rattle.std.proofs.Common.{◌≡◌, ℕ, Bool, true, false, cond, List, [], ◌∷◌, ◌++◌, length, Option, Some, None, arith}
use Rattle.std.specs.Prelude.{◌==◌, IfSome}
use Rattle.std.specs.List.{AllByRecursion, flat_map}
use Rattle.std.specs.Int.{from_bool}
use Rattle.std.proofs.lemmas.Bool.{eqb-true}
use Rattle.std.proofs.lemmas.List.{length-append}
use Rattle.pb_wire.specs.Varint.{shortest}
use Rattle.gt_model.specs.Schema.{Kind, Id, OptionalId, Text, Blob, Unsigned64, Signed64, Unsigned32, Signed32, Flag, Key, key_kind, Row, field, repeated, message, messages, member, member_message, entries, Rows, none, ◌&◌}
use Rattle.gt_model.specs.Values.{Field, Fields, Plain}
use Rattle.gt_write.specs.Spelling.{key, signed_varint, plain_record, plain_field, run_record, run_unless_empty, repeated_records, if_there, field_records, spelling}
use Rattle.gt_write.specs.Lengths.{LengthFits, plain_length, repeated_lengths, field_lengths, lengths_fit}

-- a part of what fits
run_fits : (number : ℕ) (bytes : List ℕ) → LengthFits (run_record number bytes) → LengthFits bytes
run_fits number bytes h = omega (arith, h, length-append (key number 2 ++ shortest (length bytes)) bytes)

first_fits : (a b : List ℕ) → LengthFits (a ++ b) → LengthFits a
first_fits a b h = omega (arith, h, length-append a b)

rest_fits : (a b : List ℕ) → LengthFits (a ++ b) → LengthFits b
rest_fits a b h = omega (arith, h, length-append a b)

plain_fits : (number : ℕ) (k : Kind) (v : Plain k) → LengthFits (plain_record number k v) → plain_length k v
plain_fits number Id v h = run_fits number v h
plain_fits number OptionalId None h = tt
plain_fits number OptionalId (Some id) h = run_fits number id h
plain_fits number Text v h = run_fits number v h
plain_fits number Blob v h = run_fits number v h
plain_fits number Unsigned64 v h = tt
plain_fits number Signed64 v h = tt
plain_fits number Unsigned32 v h = tt
plain_fits number Signed32 v h = tt
plain_fits number Flag v h = tt

unless_empty : (number : ℕ) (bytes : List ℕ) → LengthFits (run_unless_empty number bytes) → LengthFits bytes
unless_empty number bytes h = by (length bytes == 0) (λ e. eqb-true _ _ e) h
  where
    by : (b : Bool) → (b ≡ true → length bytes ≡ 0) → LengthFits (cond b [] (run_record number bytes)) → LengthFits bytes
    by true e h = omega (arith, e refl')
      where
        refl' : true ≡ true
        refl' = λ i. true
    by false e h = run_fits number bytes h

field_fits : (number : ℕ) (k : Kind) (v : Plain k) → LengthFits (plain_field number k v) → plain_length k v
field_fits number Id v h = run_fits number v h
field_fits number OptionalId None h = tt
field_fits number OptionalId (Some id) h = run_fits number id h
field_fits number Text v h = unless_empty number v h
field_fits number Blob v h = unless_empty number v h
field_fits number Unsigned64 v h = tt
field_fits number Signed64 v h = tt
field_fits number Unsigned32 v h = tt
field_fits number Signed32 v h = tt
field_fits number Flag v h = tt

-- for each element of a list
each_fits : {A : Type 0} (spell : A → List ℕ) (P : A → Type 0) → ((a : A) → LengthFits (spell a) → P a) → (xs : List A) → LengthFits (flat_map spell xs) → AllByRecursion P xs
each_fits spell P one [] h = tt
each_fits spell P one (x ∷ xs) h = (one x (first_fits (spell x) (flat_map spell xs) h), each_fits spell P one xs (rest_fits (spell x) (flat_map spell xs) h))

there_fits : {A : Type 0} (spell : A → List ℕ) (P : A → Type 0) → ((a : A) → LengthFits (spell a) → P a) → (o : Option A) → LengthFits (if_there spell o) → IfSome o P
there_fits spell P one None h = tt
there_fits spell P one (Some x) h = one x h

repeated_fits : (number : ℕ) (k : Kind) (vs : List (Plain k)) → LengthFits (repeated_records number k vs) → repeated_lengths k vs
repeated_fits number Id vs h = each_fits (λ id. run_record number id) (plain_length Id) (λ v. run_fits number v) vs h
repeated_fits number OptionalId vs h = each_fits (λ id. plain_record number OptionalId id) (plain_length OptionalId) (λ v. plain_fits number OptionalId v) vs h
repeated_fits number Text vs h = each_fits (λ text. run_record number text) (plain_length Text) (λ v. run_fits number v) vs h
repeated_fits number Blob vs h = each_fits (λ bytes. run_record number bytes) (plain_length Blob) (λ v. run_fits number v) vs h
repeated_fits number Unsigned64 vs h = unless_empty number (flat_map shortest vs) h
repeated_fits number Signed64 vs h = unless_empty number (flat_map (λ z. shortest (signed_varint z)) vs) h
repeated_fits number Unsigned32 vs h = unless_empty number (flat_map shortest vs) h
repeated_fits number Signed32 vs h = unless_empty number (flat_map (λ z. shortest (signed_varint z)) vs) h
repeated_fits number Flag vs h = unless_empty number (flat_map (λ b. shortest (from_bool b)) vs) h

-- a message and an entry, by what is so of the messages in them
module _ (rows : Rows) (inner : (w : Fields Plain rows) → LengthFits (spelling rows w) → lengths_fit rows w) (number : ℕ) where
  message_fits : (w : Fields Plain rows) → LengthFits (run_record number (spelling rows w)) → LengthFits (spelling rows w) × lengths_fit rows w
  message_fits w h = (run_fits number (spelling rows w) h, inner w (run_fits number (spelling rows w) h))

  entry_fits : (k : Key) (e : Plain (key_kind k) × Fields Plain rows) → LengthFits (run_record number (plain_record 1 (key_kind k) e.0 ++ run_record 2 (spelling rows e.1)))
      → LengthFits (plain_record 1 (key_kind k) e.0 ++ run_record 2 (spelling rows e.1)) × plain_length (key_kind k) e.0 × LengthFits (spelling rows e.1) × lengths_fit rows e.1
  entry_fits k e h =
      let first = plain_record 1 (key_kind k) e.0 in
      let second = run_record 2 (spelling rows e.1) in
      let whole = run_fits number (first ++ second) h in
      let within = run_fits 2 (spelling rows e.1) (rest_fits first second whole) in
      (whole, plain_fits 1 (key_kind k) e.0 (first_fits first second whole), within, inner e.1 within)

mutual
  unfolding spelling lengths_fit

  row_fits : (row : Row) (v : Field Plain row) → LengthFits (field_records row v) → field_lengths row v
  row_fits (field number k) v h = field_fits number k v h
  row_fits (repeated number k) vs h = repeated_fits number k vs h
  row_fits (message number rows) v h = there_fits (λ w. run_record number (spelling rows w)) (λ w. LengthFits (spelling rows w) × lengths_fit rows w) (message_fits rows (λ w fits. rows_fit rows w fits) number) v h
  row_fits (messages number rows) vs h = each_fits (λ w. run_record number (spelling rows w)) (λ w. LengthFits (spelling rows w) × lengths_fit rows w) (message_fits rows (λ w fits. rows_fit rows w fits) number) vs h
  row_fits (member members number k) v h = there_fits (plain_record number k) (plain_length k) (λ w fits. plain_fits number k w fits) v h
  row_fits (member_message members number rows) v h = there_fits (λ w. run_record number (spelling rows w)) (λ w. LengthFits (spelling rows w) × lengths_fit rows w) (message_fits rows (λ w fits. rows_fit rows w fits) number) v h
  row_fits (entries number k rows) es h =
      each_fits (λ (e : Plain (key_kind k) × Fields Plain rows). run_record number (plain_record 1 (key_kind k) e.0 ++ run_record 2 (spelling rows e.1)))
      (λ (e : Plain (key_kind k) × Fields Plain rows). LengthFits (plain_record 1 (key_kind k) e.0 ++ run_record 2 (spelling rows e.1)) × plain_length (key_kind k) e.0 × LengthFits (spelling rows e.1) × lengths_fit rows e.1)
      (entry_fits rows (λ w fits. rows_fit rows w fits) number k) es h

  pub rows_fit : (rows : Rows) (vs : Fields Plain rows) → LengthFits (spelling rows vs) → lengths_fit rows vs
  rows_fit none vs h = tt
  rows_fit (row & rows) vs h = (row_fits row vs.0 (first_fits (field_records row vs.0) (spelling rows vs.1) h), rows_fit rows vs.1 (rest_fits (field_records row vs.0) (spelling rows vs.1) h))
