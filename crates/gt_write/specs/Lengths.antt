-- The lengths that stand in a canonical spelling: those of identifiers, texts and bytes, of packed runs, of
-- embedded messages and of entries. Each is spelled as a varint, so it has to fit 64 bits.
use Rattle.std.specs.Prelude.{ℕ, ◌^◌, ◌<◌, IfSome, List, ◌++◌, length}
use Rattle.std.specs.Int.{from_bool}
use Rattle.std.specs.List.{AllByRecursion, flat_map}
use Rattle.pb_wire.specs.Varint.{shortest}
use Rattle.gt_model.specs.declared.ir.Ir.{Ir}
use Rattle.gt_model.specs.Schema.{Kind, Id, OptionalId, Text, Blob, Unsigned64, Signed64, Unsigned32, Signed32, Flag, key_kind, Row, field, repeated, message, messages, member, member_message, entries, Rows, none, ◌&◌, ir_rows}
use Rattle.gt_model.specs.Values.{Plain, Field, Fields}
use Rattle.gt_model.specs.Views.{ir_value}
use Rattle.gt_write.specs.Spelling.{signed_varint, plain_record, run_record, spelling}

-- the length of a run fits
abbrev pub LengthFits : List ℕ → Type 0
LengthFits bytes = length bytes < 2 ^ 64

-- that of a plain field, if it is written as a run
abbrev pub plain_length : (k : Kind) → Plain k → Type 0
plain_length Id id = LengthFits id
plain_length OptionalId id = IfSome id LengthFits
plain_length Text text = LengthFits text
plain_length Blob bytes = LengthFits bytes
plain_length Unsigned64 n = Unit {0}
plain_length Signed64 z = Unit {0}
plain_length Unsigned32 n = Unit {0}
plain_length Signed32 z = Unit {0}
plain_length Flag b = Unit {0}

-- those of a repeated field: of one packed run, or of a run for each value
abbrev pub repeated_lengths : (k : Kind) → List (Plain k) → Type 0
repeated_lengths Id ids = AllByRecursion (plain_length Id) ids
repeated_lengths OptionalId ids = AllByRecursion (plain_length OptionalId) ids
repeated_lengths Text texts = AllByRecursion (plain_length Text) texts
repeated_lengths Blob blobs = AllByRecursion (plain_length Blob) blobs
repeated_lengths Unsigned64 ns = LengthFits (flat_map shortest ns)
repeated_lengths Signed64 zs = LengthFits (flat_map (λ z. shortest (signed_varint z)) zs)
repeated_lengths Unsigned32 ns = LengthFits (flat_map shortest ns)
repeated_lengths Signed32 zs = LengthFits (flat_map (λ z. shortest (signed_varint z)) zs)
repeated_lengths Flag bs = LengthFits (flat_map (λ b. shortest (from_bool b)) bs)

unfoldable mutual
  -- those of a field: of each message itself, and of the runs in it
  pub field_lengths : (row : Row) → Field Plain row → Type 0
  field_lengths (field number k) v = plain_length k v
  field_lengths (repeated number k) vs = repeated_lengths k vs
  field_lengths (message number rows) v = IfSome v (λ w. LengthFits (spelling rows w) × lengths_fit rows w)
  field_lengths (messages number rows) vs = AllByRecursion (λ w. LengthFits (spelling rows w) × lengths_fit rows w) vs
  field_lengths (member members number k) v = IfSome v (plain_length k)
  field_lengths (member_message members number rows) v = IfSome v (λ w. LengthFits (spelling rows w) × lengths_fit rows w)
  field_lengths (entries number k rows) es =
      AllByRecursion (λ (e : Plain (key_kind k) × Fields Plain rows). LengthFits (plain_record 1 (key_kind k) e.0 ++ run_record 2 (spelling rows e.1)) × plain_length (key_kind k) e.0 × LengthFits (spelling rows e.1) × lengths_fit rows e.1) es

  -- those of all fields of a message
  pub lengths_fit : (rows : Rows) → Fields Plain rows → Type 0
  lengths_fit none vs = Unit {0}
  lengths_fit (row & rows) vs = field_lengths row vs.0 × lengths_fit rows vs.1

-- every length in the canonical bytes of an IR fits
abbrev pub every_length_fits : Ir → Type 0
every_length_fits ir = lengths_fit ir_rows (ir_value ir)
