-- The canonical spelling of a message in the Protocol Buffers wire format: fields ascend by number, a plain
-- field at its default is left out, and each varint is the shortest.
use Rattle.std.specs.Prelude.{ℕ, ◌+◌, ◌*◌, ℤ, Bool, false, not, ◌==◌, if◌then◌else◌, Option, Some, None, is_none, List, [], ◌++◌, length}
use Rattle.std.specs.List.{flat_map}
use Rattle.std.specs.Int.{w64, cast_unsigned, from_bool}
use Rattle.pb_wire.specs.Varint.{shortest}
use Rattle.gt_model.specs.Schema.{Kind, Id, OptionalId, Text, Blob, Unsigned64, Signed64, Unsigned32, Signed32, Flag, key_kind, varint, run, Row, field, repeated, message, messages, member, member_message, entries, Rows, none, ◌&◌}
use Rattle.gt_model.specs.Values.{Plain, Field, Fields}

-- the key of a record
abbrev pub key : ℕ → ℕ → List ℕ
key number wire = shortest (8 * number + wire)

-- a record of a varint, and one of a run of bytes
abbrev pub varint_record : ℕ → ℕ → List ℕ
varint_record number value = key number varint ++ shortest value

abbrev pub run_record : ℕ → List ℕ → List ℕ
run_record number bytes = key number run ++ shortest (length bytes) ++ bytes

-- a signed number as a varint: a negative one has 64 bits
abbrev pub signed_varint : ℤ → ℕ
signed_varint z = cast_unsigned w64 z

-- a plain field, whatever its value
abbrev pub plain_record : ℕ → (k : Kind) → Plain k → List ℕ
plain_record number Id id = run_record number id
plain_record number OptionalId None = run_record number []
plain_record number OptionalId (Some id) = run_record number id
plain_record number Text text = run_record number text
plain_record number Blob bytes = run_record number bytes
plain_record number Unsigned64 n = varint_record number n
plain_record number Signed64 z = varint_record number (signed_varint z)
plain_record number Unsigned32 n = varint_record number n
plain_record number Signed32 z = varint_record number (signed_varint z)
plain_record number Flag b = varint_record number (from_bool b)

-- whether a value is its kind's default. An identifier that must be there has none
abbrev pub is_default : (k : Kind) → Plain k → Bool
is_default Id id = false
is_default OptionalId id = is_none id
is_default Text text = length text == 0
is_default Blob bytes = length bytes == 0
is_default Unsigned64 n = n == 0
is_default Signed64 z = signed_varint z == 0
is_default Unsigned32 n = n == 0
is_default Signed32 z = signed_varint z == 0
is_default Flag b = not b

-- a plain field, left out at its default
abbrev pub plain_field : ℕ → (k : Kind) → Plain k → List ℕ
plain_field number k value = if is_default k value then [] else plain_record number k value

-- a run that is left out where it is empty
abbrev pub run_unless_empty : ℕ → List ℕ → List ℕ
run_unless_empty number bytes = plain_field number Blob bytes

-- the values of a repeated field: numbers in one packed run, the others each in a record of its own
abbrev pub repeated_records : ℕ → (k : Kind) → List (Plain k) → List ℕ
repeated_records number Id ids = flat_map (λ id. run_record number id) ids
repeated_records number OptionalId ids = flat_map (λ id. plain_record number OptionalId id) ids
repeated_records number Text texts = flat_map (λ text. run_record number text) texts
repeated_records number Blob blobs = flat_map (λ bytes. run_record number bytes) blobs
repeated_records number Unsigned64 ns = run_unless_empty number (flat_map shortest ns)
repeated_records number Signed64 zs = run_unless_empty number (flat_map (λ z. shortest (signed_varint z)) zs)
repeated_records number Unsigned32 ns = run_unless_empty number (flat_map shortest ns)
repeated_records number Signed32 zs = run_unless_empty number (flat_map (λ z. shortest (signed_varint z)) zs)
repeated_records number Flag bs = run_unless_empty number (flat_map (λ b. shortest (from_bool b)) bs)

-- a record for the value, if there is one
abbrev pub if_there : {A : Type 0} → (A → List ℕ) → Option A → List ℕ
if_there spell None = []
if_there spell (Some value) = spell value

unfoldable mutual
  -- the records of a field. A member of a oneof that is set is written, also at its default; an entry of a
  -- map has its key and its value in any case
  pub field_records : (row : Row) → Field Plain row → List ℕ
  field_records (field number k) value = plain_field number k value
  field_records (repeated number k) values = repeated_records number k values
  field_records (message number rows) value = if_there (λ v. run_record number (spelling rows v)) value
  field_records (messages number rows) values = flat_map (λ v. run_record number (spelling rows v)) values
  field_records (member members number k) value = if_there (plain_record number k) value
  field_records (member_message members number rows) value = if_there (λ v. run_record number (spelling rows v)) value
  field_records (entries number k rows) values = flat_map (λ e. run_record number (plain_record 1 (key_kind k) e.0 ++ run_record 2 (spelling rows e.1))) values

  -- the records of a message's fields, in the order of the schema
  pub spelling : (rows : Rows) → Fields Plain rows → List ℕ
  spelling none values = []
  spelling (row & rows) values = field_records row values.0 ++ spelling rows values.1
