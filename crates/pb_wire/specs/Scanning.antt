-- The record at the front of bytes to which more may come.
use Rattle.std.specs.Prelude.{◌≡◌, ◌≢◌, ℕ, ◌≤◌, List, length, take, Result, Ok, Err}
use Rattle.pb_wire.specs.declared.fault.WireFault.{WireFault}
use Rattle.pb_wire.specs.declared.fault.WireReason.{WireReason}
use Rattle.pb_wire.specs.declared.fault.WireReason.TheVariants as reasons
use Rattle.pb_wire.specs.declared.records.Record.{Record}
use Rattle.pb_wire.specs.declared.records.Scan.{Scan}
use Rattle.pb_wire.specs.declared.records.Scan.TheVariants.{Whole, Short}
use Rattle.pb_wire.specs.Records.{Spells}
use Rattle.pb_wire.specs.Faults.{Fails}

-- the first bytes, so many, spell the record, whose place is the base
pub record IsFront (bytes : List ℕ) (base : ℕ) (r : Record) (size : ℕ) : Type 0 where
  pub within : size ≤ length bytes
  pub spelled : Spells r (take size bytes)
  pub here : r.place ≡ base

-- no record begins the bytes, for a reason that no bytes behind them mend
pub record IsBroken (bytes : List ℕ) (base : ℕ) (fault : WireFault) : Type 0 where
  pub here : fault.place ≡ base
  pub fails : Fails bytes fault.reason
  pub lasts : fault.reason ≢ reasons.Truncated

-- what a scan answers, by the record at the front: one that is cut is short
abbrev pub scan_of : ℕ → Result (Record × ℕ) WireReason → Result Scan WireFault
scan_of base (Ok found) = Ok (Whole found.0 found.1)
scan_of base (Err reasons.Truncated) = Ok Short
scan_of base (Err reasons.Varint) = Err (record { place = base; reason = reasons.Varint })
scan_of base (Err reasons.WireType) = Err (record { place = base; reason = reasons.WireType })
scan_of base (Err reasons.FieldZero) = Err (record { place = base; reason = reasons.FieldZero })
