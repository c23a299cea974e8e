-- The records of a message, each with the bytes of its run.
use Rattle.std.specs.Prelude.{ℕ, zero, suc, ◌+◌, List, [], ◌∷◌, length, drop, Option, Some, None, Result, Ok, Err}
use Rattle.pb_wire.specs.declared.fault.WireFault.{WireFault}
use Rattle.pb_wire.specs.declared.fault.WireReason.{WireReason}
use Rattle.pb_wire.specs.declared.records.Load.{Load}
use Rattle.pb_wire.specs.declared.records.Load.TheVariants as loads
use Rattle.pb_wire.specs.declared.records.Record.{Record}
use Rattle.pb_wire.specs.Records.{content_of}
use Rattle.pb_wire.specs.Reading.{record_of}

-- what a record carries: a varint, a run of bytes of which the first is at the place, or a number of fixed size
pub data Carried : Type 0 where
  Number : ℕ → Carried
  Bytes : ℕ → List ℕ → Carried
  Fixed : Carried

-- a record, its place and its field number
pub record Piece : Type 0 where
  pub place : ℕ
  pub number : ℕ
  pub carried : Carried

-- what a load carries, among bytes of which the first is at the base
abbrev pub carried_of : List ℕ → ℕ → Load → Carried
carried_of bytes base (loads.Varint n) = Number n
carried_of bytes base (loads.Eight n) = Fixed
carried_of bytes base (loads.Run span) = Bytes span.start (content_of bytes base span)
carried_of bytes base (loads.Four n) = Fixed

abbrev pub piece_of : List ℕ → ℕ → Record → Piece
piece_of bytes base r = record { place = r.place; number = r.field; carried = carried_of bytes base r.load }

-- the records of bytes up to the first that can't be completed, and that one's place and reason
pub record Walk : Type 0 where
  pub pieces : List Piece
  pub broken : Option WireFault

abbrev pub put_first : Piece → Walk → Walk
put_first p w = record { pieces = p ∷ w.pieces; broken = w.broken }

-- the walk behind the record at the front, if there is one
abbrev pub walk_on : (Record × ℕ → Walk) → ℕ → Result (Record × ℕ) WireReason → Walk
walk_on next base (Ok found) = next found
walk_on next base (Err reason) = record { pieces = []; broken = Some (record { place = base; reason = reason }) }

-- the walk over so many records at most
unfoldable pub walk_within : ℕ → List ℕ → ℕ → Walk
walk_within zero bytes base = record { pieces = []; broken = None }
walk_within (suc more) [] base = record { pieces = []; broken = None }
walk_within (suc more) (b ∷ bs) base =
    walk_on (λ found. put_first (piece_of (b ∷ bs) base found.0) (walk_within more (drop found.1 (b ∷ bs)) (base + found.1))) base (record_of (b ∷ bs) base)

-- the walk over bytes of which the first is at the base; each record takes a byte at least
abbrev pub walk : List ℕ → ℕ → Walk
walk bytes base = walk_within (length bytes) bytes base

abbrev pub pieces : List ℕ → ℕ → List Piece
pieces bytes base = (walk bytes base).pieces

abbrev pub broken : List ℕ → ℕ → Option WireFault
broken bytes base = (walk bytes base).broken
