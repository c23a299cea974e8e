-- The identifiers of a message's meaning, and those that haven't sixteen bytes.
use Rattle.std.specs.Prelude.{ℕ, ◌==◌, nat_le, ◌||◌, if◌then◌else◌, List, [], ◌∷◌, ◌++◌, length, map, Option, Some, None, replicate}
use Rattle.std.specs.List.{flat_map}
use Rattle.std.specs.Option.{option_map}
use Rattle.gt_model.specs.Schema.{Kind, Id, OptionalId, Text, Blob, Unsigned64, Signed64, Unsigned32, Signed32, Flag, key_kind, Row, field, repeated, message, messages, member, member_message, entries, Rows, none, ◌&◌}
use Rattle.gt_model.specs.Values.{Field, Fields, Plain}
use Rattle.gt_read.specs.declared.ids.IdFault.{IdFault}
use Rattle.gt_read.specs.Kinds.{Located, Read}

-- the place and the length of an identifier that is at fault
abbrev pub fault_at : Located → List IdFault
fault_at id = record { place = id.place; len = length id.bytes } ∷ []

-- an identifier has sixteen bytes, and one that may be absent has sixteen or none
abbrev pub plain_bad : (k : Kind) → Read k → List IdFault
plain_bad Id id = if length id.bytes == 16 then [] else fault_at id
plain_bad OptionalId id = if (length id.bytes == 16) || (length id.bytes == 0) then [] else fault_at id
plain_bad Text v = []
plain_bad Blob v = []
plain_bad Unsigned64 v = []
plain_bad Signed64 v = []
plain_bad Unsigned32 v = []
plain_bad Signed32 v = []
plain_bad Flag v = []

-- those of a value, if there is one
abbrev pub if_some : {A B : Type 0} → (A → List B) → Option A → List B
if_some f None = []
if_some f (Some a) = f a

-- the bytes of an identifier; one at fault stands for sixteen zeros
abbrev pub id_of : Located → List ℕ
id_of id = if length id.bytes == 16 then id.bytes else replicate 16 0

abbrev pub optional_id_of : Located → Option (List ℕ)
optional_id_of id = if length id.bytes == 16 then Some id.bytes else None

-- a value without the places of its identifiers
abbrev pub plain_of : (k : Kind) → Read k → Plain k
plain_of Id v = id_of v
plain_of OptionalId v = optional_id_of v
plain_of Text v = v
plain_of Blob v = v
plain_of Unsigned64 v = v
plain_of Signed64 v = v
plain_of Unsigned32 v = v
plain_of Signed32 v = v
plain_of Flag v = v

unfoldable mutual
  pub field_bad : (row : Row) → Field Read row → List IdFault
  field_bad (field number k) v = plain_bad k v
  field_bad (repeated number k) vs = flat_map (plain_bad k) vs
  field_bad (message number rows) v = if_some (λ w. bad rows w) v
  field_bad (messages number rows) vs = flat_map (λ w. bad rows w) vs
  field_bad (member members number k) v = if_some (plain_bad k) v
  field_bad (member_message members number rows) v = if_some (λ w. bad rows w) v
  field_bad (entries number k rows) es = flat_map (λ e. bad rows e.1) es

  -- the identifiers at fault in the value of a message
  pub bad : (rows : Rows) → Fields Read rows → List IdFault
  bad none vs = []
  bad (row & rows) vs = field_bad row vs.0 ++ bad rows vs.1

-- of two faults the one of the lesser place
abbrev pub earlier : Option IdFault → Option IdFault → Option IdFault
earlier None b = b
earlier (Some f) None = Some f
earlier (Some f) (Some g) = if nat_le f.place g.place then Some f else Some g

-- the fault of the least place
abbrev pub least : List IdFault → Option IdFault
least [] = None
least (f ∷ fs) = earlier (Some f) (least fs)

unfoldable mutual
  pub field_plain : (row : Row) → Field Read row → Field Plain row
  field_plain (field number k) v = plain_of k v
  field_plain (repeated number k) vs = map (plain_of k) vs
  field_plain (message number rows) v = option_map (λ w. plain rows w) v
  field_plain (messages number rows) vs = map (λ w. plain rows w) vs
  field_plain (member members number k) v = option_map (plain_of k) v
  field_plain (member_message members number rows) v = option_map (λ w. plain rows w) v
  field_plain (entries number k rows) es = map (λ e. (plain_of (key_kind k) e.0, plain rows e.1)) es

  -- the value of a message without the places of its identifiers
  pub plain : (rows : Rows) → Fields Read rows → Fields Plain rows
  plain none vs = tt
  plain (row & rows) vs = (field_plain row vs.0, plain rows vs.1)
