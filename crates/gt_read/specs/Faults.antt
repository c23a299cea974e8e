-- What is wrong with the bytes of a message: its own records and those of every payload in it, also of those
-- whose meaning is forgotten, in the order of the bytes.
use Rattle.std.specs.Prelude.{ℕ, ◌==◌, if◌then◌else◌, List, [], ◌∷◌, ◌++◌, Option, Some, None}
use Rattle.std.specs.Str.{is_utf8}
use Rattle.std.specs.List.{flat_map}
use Rattle.pb_wire.specs.declared.fault.WireFault.{WireFault}
use Rattle.pb_wire.specs.declared.fault.WireReason.{WireReason}
use Rattle.gt_model.specs.Schema.{Kind, Id, OptionalId, Text, Blob, Unsigned64, Signed64, Unsigned32, Signed32, Flag, Key, key_kind, Row, field, repeated, message, messages, member, member_message, entries, Rows, none, ◌&◌}
use Rattle.gt_read.specs.declared.fault.FormatFault.{FormatFault}
use Rattle.gt_read.specs.declared.fault.FormatFault.TheVariants.{Wire, Utf8}
use Rattle.gt_read.specs.Pieces.{Carried, Number, Bytes, Fixed, Piece, pieces, broken}
use Rattle.gt_read.specs.Kinds.{packed, is_varint_kind}

-- a text that isn't UTF-8
abbrev pub text_faults : Kind → ℕ → List ℕ → List FormatFault
text_faults Text place bytes = if is_utf8 bytes then [] else Utf8 place ∷ []
text_faults Id place bytes = []
text_faults OptionalId place bytes = []
text_faults Blob place bytes = []
text_faults Unsigned64 place bytes = []
text_faults Signed64 place bytes = []
text_faults Unsigned32 place bytes = []
text_faults Signed32 place bytes = []
text_faults Flag place bytes = []

-- a packed run that isn't a list of varints, at the place of its record
abbrev pub failed_at : ℕ → Option WireReason → List FormatFault
failed_at place None = []
failed_at place (Some reason) = Wire (record { place = place; reason = reason }) ∷ []

abbrev pub packed_faults : Kind → ℕ → List ℕ → List FormatFault
packed_faults k place bytes = if is_varint_kind k then failed_at place (packed bytes).failed else text_faults k place bytes

-- a record that can't be completed
abbrev pub broken_faults : Option WireFault → List FormatFault
broken_faults None = []
broken_faults (Some fault) = Wire fault ∷ []

-- what is wrong with the run of a record, if it has one: by the record's place, the place of the run's first
-- byte, and the run's bytes
abbrev pub in_run : (ℕ → ℕ → List ℕ → List FormatFault) → ℕ → Carried → List FormatFault
in_run faults place (Number n) = []
in_run faults place (Bytes start bytes) = faults place start bytes
in_run faults place Fixed = []

-- the same for a record of a field number, and nothing for others
abbrev pub at_number : ℕ → (ℕ → ℕ → List ℕ → List FormatFault) → Piece → List FormatFault
at_number number faults p = if p.number == number then in_run faults p.place p.carried else []

-- what is wrong with a record of a plain field
abbrev pub plain_faults : Kind → Piece → List FormatFault
plain_faults k p = in_run (λ place start bytes. text_faults k place bytes) p.place p.carried

-- the first of them
abbrev pub first_of : {A : Type 0} → List A → Option A
first_of [] = None
first_of (a ∷ rest) = Some a

-- what is wrong with a message, by what is wrong with a record of it
abbrev pub message_faults : (Piece → List FormatFault) → List ℕ → ℕ → List FormatFault
message_faults faults bytes base = flat_map faults (pieces bytes base) ++ broken_faults (broken bytes base)

-- what is wrong with an entry of a map
abbrev pub entry_faults : Key → (List ℕ → ℕ → List FormatFault) → Piece → List FormatFault
entry_faults k faults p =
    at_number 1 (λ place start bytes. text_faults (key_kind k) place bytes) p ++ at_number 2 (λ place start bytes. faults bytes start) p

unfoldable mutual
  -- what is wrong with a record, as one of the field
  pub field_faults : Row → Piece → List FormatFault
  field_faults (field number k) p = at_number number (λ place start bytes. text_faults k place bytes) p
  field_faults (repeated number k) p = at_number number (λ place start bytes. packed_faults k place bytes) p
  field_faults (message number rows) p = at_number number (λ place start bytes. message_faults (λ q. piece_faults rows q) bytes start) p
  field_faults (messages number rows) p = at_number number (λ place start bytes. message_faults (λ q. piece_faults rows q) bytes start) p
  field_faults (member members number k) p = at_number number (λ place start bytes. text_faults k place bytes) p
  field_faults (member_message members number rows) p = at_number number (λ place start bytes. message_faults (λ q. piece_faults rows q) bytes start) p
  field_faults (entries number k rows) p =
      at_number number (λ place start bytes. message_faults (entry_faults k (λ inner base. message_faults (λ q. piece_faults rows q) inner base)) bytes start) p

  -- what is wrong with a record of the message. A record of no field is never looked into
  pub piece_faults : Rows → Piece → List FormatFault
  piece_faults none p = []
  piece_faults (row & rows) p = field_faults row p ++ piece_faults rows p

-- what is wrong with the bytes of a message, of which the first is at the base
abbrev pub faults : Rows → List ℕ → ℕ → List FormatFault
faults rows bytes base = message_faults (piece_faults rows) bytes base
