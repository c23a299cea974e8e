-- Why bytes have no list of records: the first record that can't be completed, and the first reason.
use Rattle.std.specs.Prelude.{◌≡◌, ◌≢◌, IsTrue, ℕ, ◌+◌, ◌*◌, ◌<◌, ◌≤◌, List, [], ◌++◌, length, take, slice_index}
use Rattle.pb_wire.specs.declared.fault.WireFault.{WireFault}
use Rattle.pb_wire.specs.declared.fault.WireReason.{WireReason}
use Rattle.pb_wire.specs.declared.fault.WireReason.TheVariants.{Varint, Truncated, WireType, FieldZero}
use Rattle.pb_wire.specs.declared.records.Record.{Record}
use Rattle.pb_wire.specs.Varint.{IsVarint, varints, GoOn}
use Rattle.pb_wire.specs.Records.{records, is_wire}

-- why no varint begins the bytes: ten bytes have no end or the tenth is above 1, or the bytes end first
abbrev pub VarintFails : List ℕ → WireReason → Type 0
VarintFails bytes Varint = (10 ≤ length bytes) × GoOn (take 9 bytes) × (1 < slice_index bytes 9)
VarintFails bytes Truncated = (length bytes < 10) × GoOn bytes
VarintFails bytes WireType = ⊥
VarintFails bytes FieldZero = ⊥

-- the bytes are varints of the numbers, and then others that no varint begins, for the reason
pub record varints_fault (bytes numbers : List ℕ) (reason : WireReason) : Type 0 where
  pub front : List ℕ
  pub rest : List ℕ
  pub whole : bytes ≡ front ++ rest
  pub before : varints front numbers
  pub more : rest ≢ []
  pub fails : VarintFails rest reason

-- a varint of the value begins the bytes, and the rest follows
pub record Begins (value : ℕ) (bytes rest : List ℕ) : Type 0 where
  pub front : List ℕ
  pub whole : bytes ≡ front ++ rest
  pub front_is : IsVarint front value

-- why no payload of the wire type begins the bytes
pub data PayloadFails (wire : ℕ) (bytes : List ℕ) (reason : WireReason) : Type 0 where
  bad_varint : wire ≡ 0 → VarintFails bytes reason → PayloadFails wire bytes reason
  short_eight : wire ≡ 1 → length bytes < 8 → reason ≡ Truncated → PayloadFails wire bytes reason
  bad_size : wire ≡ 2 → VarintFails bytes reason → PayloadFails wire bytes reason
  short_run : wire ≡ 2 → (len : ℕ) (rest : List ℕ) → Begins len bytes rest → length rest < len → reason ≡ Truncated → PayloadFails wire bytes reason
  short_four : wire ≡ 5 → length bytes < 4 → reason ≡ Truncated → PayloadFails wire bytes reason

-- why no record begins the bytes: the key, the field number 0, the wire type or the payload, in this order
pub data Fails (bytes : List ℕ) (reason : WireReason) : Type 0 where
  bad_key : VarintFails bytes reason → Fails bytes reason
  zero_field : (wire : ℕ) (rest : List ℕ) → Begins wire bytes rest → wire < 8 → reason ≡ FieldZero → Fails bytes reason
  unknown_wire : (field wire : ℕ) (rest : List ℕ) → Begins (8 * field + wire) bytes rest → 1 ≤ field → wire < 8 → ¬ IsTrue (is_wire wire) → reason ≡ WireType → Fails bytes reason
  bad_payload : (field wire : ℕ) (rest : List ℕ) → Begins (8 * field + wire) bytes rest → 1 ≤ field → PayloadFails wire rest reason → Fails bytes reason

-- the bytes are whole records, and then others that no record begins, at the fault's place and for its reason
pub record wire_fault (bytes : List ℕ) (base : ℕ) (fault : WireFault) : Type 0 where
  pub list : List Record
  pub front : List ℕ
  pub rest : List ℕ
  pub whole : bytes ≡ front ++ rest
  pub before : records front base list
  pub more : rest ≢ []
  pub here : fault.place ≡ base + length front
  pub fails : Fails rest fault.reason
