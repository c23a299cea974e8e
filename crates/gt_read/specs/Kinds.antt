-- What one record holds of a kind.
use Rattle.std.specs.Prelude.{ℕ, zero, suc, ◌%◌, ◌^◌, ℤ, pos, Bool, true, false, not, ◌==◌, if◌then◌else◌, List, [], ◌∷◌, length, drop, Option, Some, None, Result, Ok, Err}
use Rattle.std.specs.List.{filter, filter_map}
use Rattle.std.specs.Int.{w32, w64, cast_signed}
use Rattle.pb_wire.specs.declared.fault.WireReason.{WireReason}
use Rattle.pb_wire.specs.Reading.{varint_of}
use Rattle.gt_model.specs.Schema.{Kind, Id, OptionalId, Text, Blob, Unsigned64, Signed64, Unsigned32, Signed32, Flag}
use Rattle.gt_read.specs.Pieces.{Carried, Number, Bytes, Fixed, Piece}

-- an identifier as it was read: its place and its bytes, which may be of any length
pub record Located : Type 0 where
  pub place : ℕ
  pub bytes : List ℕ

-- what a plain field holds as it was read
abbrev pub Read : Kind → Type 0
Read Id = Located
Read OptionalId = Located
Read Text = List ℕ
Read Blob = List ℕ
Read Unsigned64 = ℕ
Read Signed64 = ℤ
Read Unsigned32 = ℕ
Read Signed32 = ℤ
Read Flag = Bool

-- a varint's low 32 bits
abbrev pub low32 : ℕ → ℕ
low32 n = n % 2 ^ 32

-- what a varint means, and what a run of bytes does; none where the kind has another wire type
abbrev pub from_varint : (k : Kind) → ℕ → Option (Read k)
from_varint Id n = None
from_varint OptionalId n = None
from_varint Text n = None
from_varint Blob n = None
from_varint Unsigned64 n = Some n
from_varint Signed64 n = Some (cast_signed w64 n)
from_varint Unsigned32 n = Some (low32 n)
from_varint Signed32 n = Some (cast_signed w32 (low32 n))
from_varint Flag n = Some (not (n == 0))

abbrev pub from_bytes : (k : Kind) → ℕ → List ℕ → Option (Read k)
from_bytes Id place bytes = Some (record { place = place; bytes = bytes })
from_bytes OptionalId place bytes = Some (record { place = place; bytes = bytes })
from_bytes Text place bytes = Some bytes
from_bytes Blob place bytes = Some bytes
from_bytes Unsigned64 place bytes = None
from_bytes Signed64 place bytes = None
from_bytes Unsigned32 place bytes = None
from_bytes Signed32 place bytes = None
from_bytes Flag place bytes = None

abbrev pub from_carried : (k : Kind) → ℕ → Carried → Option (Read k)
from_carried k place (Number n) = from_varint k n
from_carried k place (Bytes start bytes) = from_bytes k place bytes
from_carried k place Fixed = None

-- the value of a record, if its wire type is that of the kind
abbrev pub value_of : (k : Kind) → Piece → Option (Read k)
value_of k p = from_carried k p.place p.carried

-- the value where there is no record: 0, false, no bytes, or an identifier of no bytes at the place of the message
abbrev pub absent : (k : Kind) → ℕ → Read k
absent Id first = record { place = first; bytes = [] }
absent OptionalId first = record { place = first; bytes = [] }
absent Text first = []
absent Blob first = []
absent Unsigned64 first = 0
absent Signed64 first = pos 0
absent Unsigned32 first = 0
absent Signed32 first = pos 0
absent Flag first = false

-- the varints of a packed run, and why its rest has none
pub record Packed : Type 0 where
  pub numbers : List ℕ
  pub failed : Option WireReason

abbrev pub put_number : ℕ → Packed → Packed
put_number n p = record { numbers = n ∷ p.numbers; failed = p.failed }

abbrev pub packed_on : (ℕ × ℕ → Packed) → Result (ℕ × ℕ) WireReason → Packed
packed_on next (Ok found) = next found
packed_on next (Err reason) = record { numbers = []; failed = Some reason }

-- so many varints at most
unfoldable pub packed_within : ℕ → List ℕ → Packed
packed_within zero bytes = record { numbers = []; failed = None }
packed_within (suc more) [] = record { numbers = []; failed = None }
packed_within (suc more) (b ∷ bs) = packed_on (λ found. put_number found.0 (packed_within more (drop found.1 (b ∷ bs)))) (varint_of (b ∷ bs))

abbrev pub packed : List ℕ → Packed
packed bytes = packed_within (length bytes) bytes

-- the signed numbers of 32 bits in a packed run
abbrev pub packed_signed : List ℕ → List ℤ
packed_signed bytes = filter_map (from_varint Signed32) (packed bytes).numbers

-- whether a kind's wire type is that of a varint
abbrev pub is_varint_kind : Kind → Bool
is_varint_kind Id = false
is_varint_kind OptionalId = false
is_varint_kind Text = false
is_varint_kind Blob = false
is_varint_kind Unsigned64 = true
is_varint_kind Signed64 = true
is_varint_kind Unsigned32 = true
is_varint_kind Signed32 = true
is_varint_kind Flag = true

-- the values of a record of a repeated field: one, or those of a packed run
abbrev pub values_in : (k : Kind) → ℕ → Carried → List (Read k)
values_in k place (Number n) = filter_map (from_varint k) (n ∷ [])
values_in k place (Bytes start bytes) =
    if is_varint_kind k then filter_map (from_varint k) (packed bytes).numbers else filter_map (from_bytes k place) (bytes ∷ [])
values_in k place Fixed = []

abbrev pub values_of : (k : Kind) → Piece → List (Read k)
values_of k p = values_in k p.place p.carried

-- the records of a field number
abbrev pub of_number : ℕ → List Piece → List Piece
of_number number ps = filter (λ (p : Piece). p.number == number) ps

-- a record of a run: its place, and the place of the first byte
pub record Run : Type 0 where
  pub place : ℕ
  pub start : ℕ
  pub bytes : List ℕ

abbrev pub run_in : ℕ → Carried → Option Run
run_in place (Number n) = None
run_in place (Bytes start bytes) = Some (record { place = place; start = start; bytes = bytes })
run_in place Fixed = None

abbrev pub run_of : Piece → Option Run
run_of p = run_in p.place p.carried
