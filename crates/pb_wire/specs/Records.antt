-- The records of a message in the Protocol Buffers wire format, and the bytes that spell them.
use Rattle.std.specs.Prelude.{◌≡◌, ℕ, ◌+◌, ◌-◌, ◌*◌, ◌≤◌, Bool, ◌==◌, ◌||◌, List, [], ◌∷◌, ◌++◌, length, take, drop}
use Rattle.std.specs.Int.{w32, w64, from_le_bytes}
use Rattle.pb_wire.specs.declared.records.Span.{Span}
use Rattle.pb_wire.specs.declared.records.Load.{Load}
use Rattle.pb_wire.specs.declared.records.Load.TheVariants.{Varint, Eight, Run, Four}
use Rattle.pb_wire.specs.declared.records.Record.{Record}
use Rattle.pb_wire.specs.Ahead.{Ahead}
use Rattle.pb_wire.specs.Varint.{IsVarint}

-- the wire type of a load
abbrev pub wire_of : Load → ℕ
wire_of (Varint n) = 0
wire_of (Eight n) = 1
wire_of (Run span) = 2
wire_of (Four n) = 5

-- the wire types that a record may have
abbrev pub is_wire : ℕ → Bool
is_wire wire = wire == 0 || wire == 1 || wire == 2 || wire == 5

-- a varint of the length and then so many bytes, to the first of which the span points
pub record IsRun (span : Span) (bytes : List ℕ) (place : ℕ) : Type 0 where
  pub size : List ℕ
  pub content : List ℕ
  pub whole : bytes ≡ size ++ content
  pub size_is : IsVarint size span.len
  pub len : span.len ≡ length content
  pub start : span.start ≡ place + length size

-- the bytes, the first of them at the place, are the payload of a load
abbrev pub IsPayload : Load → List ℕ → ℕ → Type 0
IsPayload (Varint n) bytes place = IsVarint bytes n
IsPayload (Eight n) bytes place = (length bytes ≡ 8) × (n ≡ from_le_bytes w64 bytes)
IsPayload (Run span) bytes place = IsRun span bytes place
IsPayload (Four n) bytes place = (length bytes ≡ 4) × (n ≡ from_le_bytes w32 bytes)

-- the bytes spell the record: a key varint of 8 times the field plus the wire type, and the payload
pub record Spells (r : Record) (bytes : List ℕ) : Type 0 where
  pub key : List ℕ
  pub payload : List ℕ
  pub whole : bytes ≡ key ++ payload
  pub key_is : IsVarint key (8 * r.field + wire_of r.load)
  pub field : 1 ≤ r.field
  pub payload_is : IsPayload r.load payload (r.place + length key)

-- the bytes, the first of them at the base, are the spellings of the records, one after another
abbrev pub records : List ℕ → ℕ → List Record → Type 0
records bytes base [] = bytes ≡ []
records bytes base (r ∷ rs) = (text : List ℕ) × (rest : List ℕ) × (bytes ≡ text ++ rest) × Spells r text × (r.place ≡ base) × records rest (base + length text) rs

-- the record is spelled at the front of what was ahead, and what is ahead now begins behind it
pub record Takes (r : Record) (old new : Ahead) : Type 0 where
  pub text : List ℕ
  pub spelled : Spells r text
  pub here : r.place ≡ old.place
  pub split : old.bytes ≡ text ++ new.bytes
  pub behind : new.place ≡ old.place + length text

-- the bytes to which a span points, among bytes of which the first is at the base
abbrev pub content_of : List ℕ → ℕ → Span → List ℕ
content_of bytes base span = take span.len (drop (span.start - base) bytes)

-- a span lies within the bytes that were ahead and ends where those that are ahead now begin
pub record LiesBetween (old new : Ahead) (span : Span) : Type 0 where
  pub from : old.place ≤ span.start
  pub until : span.start + span.len ≡ new.place
  pub within : span.start - old.place + span.len ≤ length old.bytes

-- the span of a run lies within the bytes that were ahead and ends where those that are ahead now begin
abbrev pub RunLies : Load → Ahead → Ahead → Type 0
RunLies (Varint n) old new = Unit {0}
RunLies (Eight n) old new = Unit {0}
RunLies (Run span) old new = LiesBetween old new span
RunLies (Four n) old new = Unit {0}
