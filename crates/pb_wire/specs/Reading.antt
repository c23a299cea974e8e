-- What stands at the front of bytes, or why nothing does, as functions of the bytes.
use Rattle.std.specs.Prelude.{ℕ, zero, suc, ◌+◌, ◌*◌, ◌/◌, ◌%◌, ◌==◌, nat_lt, if◌then◌else◌, List, [], ◌∷◌, length, take, drop, Result, Ok, Err}
use Rattle.std.specs.Int.{w32, w64, from_le_bytes}
use Rattle.pb_wire.specs.declared.fault.WireReason.{WireReason}
use Rattle.pb_wire.specs.declared.fault.WireReason.TheVariants as reasons
use Rattle.pb_wire.specs.declared.records.Load.{Load}
use Rattle.pb_wire.specs.declared.records.Load.TheVariants.{Varint, Eight, Run, Four}
use Rattle.pb_wire.specs.declared.records.Record.{Record}

-- a number with seven lower bits
abbrev pub above : ℕ → Result (ℕ × ℕ) WireReason → Result (ℕ × ℕ) WireReason
above b (Ok found) = Ok (b % 128 + 128 * found.0, suc found.1)
above b (Err reason) = Err reason

-- the varint at the front, of at most so many bytes before the last, and how many bytes it has
unfoldable pub varint_within : ℕ → List ℕ → Result (ℕ × ℕ) WireReason
varint_within zero [] = Err reasons.Truncated
varint_within (suc more) [] = Err reasons.Truncated
varint_within zero (b ∷ bs) = if nat_lt 1 b then Err reasons.Varint else Ok (b, 1)
varint_within (suc more) (b ∷ bs) = if nat_lt b 128 then Ok (b, 1) else above b (varint_within more bs)

-- the varint at the front, and how many bytes it has
abbrev pub varint_of : List ℕ → Result (ℕ × ℕ) WireReason
varint_of bytes = varint_within 9 bytes

-- a number as a load
abbrev pub varint_load : Result (ℕ × ℕ) WireReason → Result (Load × ℕ) WireReason
varint_load (Ok found) = Ok (Varint found.0, found.1)
varint_load (Err reason) = Err reason

-- the first eight bytes, the low one first
abbrev pub eight_load : List ℕ → Result (Load × ℕ) WireReason
eight_load bytes = if nat_lt (length bytes) 8 then Err reasons.Truncated else Ok (Eight (from_le_bytes w64 (take 8 bytes)), 8)

-- the first four bytes, the low one first
abbrev pub four_load : List ℕ → Result (Load × ℕ) WireReason
four_load bytes = if nat_lt (length bytes) 4 then Err reasons.Truncated else Ok (Four (from_le_bytes w32 (take 4 bytes)), 4)

-- a run behind its length
abbrev pub run_load : List ℕ → ℕ → Result (ℕ × ℕ) WireReason → Result (Load × ℕ) WireReason
run_load bytes place (Ok found) = if nat_lt (length bytes) (found.1 + found.0) then Err reasons.Truncated else Ok (Run (record { start = place + found.1; len = found.0 }), found.1 + found.0)
run_load bytes place (Err reason) = Err reason

-- the payload of a wire type at the front, whose first byte is at the place, and how many bytes it has
unfoldable pub payload_of : ℕ → List ℕ → ℕ → Result (Load × ℕ) WireReason
payload_of wire bytes place =
    if wire == 0 then varint_load (varint_of bytes)
    else if wire == 1 then eight_load bytes
    else if wire == 2 then run_load bytes place (varint_of bytes)
    else if wire == 5 then four_load bytes
    else Err reasons.WireType

-- a record of a payload behind its key
abbrev pub with_key : ℕ → ℕ → ℕ → Result (Load × ℕ) WireReason → Result (Record × ℕ) WireReason
with_key place field size (Ok found) = Ok (record { place = place; field = field; load = found.0 }, size + found.1)
with_key place field size (Err reason) = Err reason

-- a record behind the value of its key
abbrev pub behind_key : List ℕ → ℕ → Result (ℕ × ℕ) WireReason → Result (Record × ℕ) WireReason
behind_key bytes place (Ok found) = if nat_lt found.0 8 then Err reasons.FieldZero else with_key place (found.0 / 8) found.1 (payload_of (found.0 % 8) (drop found.1 bytes) (place + found.1))
behind_key bytes place (Err reason) = Err reason

-- the record at the front, whose first byte is at the place, and how many bytes it has
unfoldable pub record_of : List ℕ → ℕ → Result (Record × ℕ) WireReason
record_of bytes place = behind_key bytes place (varint_of bytes)
