-- Where symbols at the end of a block go, by how the last parts of blocks are found.
use Rattle.std.specs.Prelude.{ℕ, if◌then◌else◌, List, Option, unwrap_or}
use Rattle.gt_model.specs.declared.symbols.Payload.{Payload}
use Rattle.gt_model.specs.declared.symbols.Payload.TheVariants as payloads
use Rattle.gt_model.specs.declared.symbols.Symbol.{Symbol}

-- a payload at the end of a block: where none is found the referent stays
abbrev pub payload_by : (List ℕ → Option (List ℕ)) → Payload → Payload
payload_by found payloads.Nothing = payloads.Nothing
payload_by found (payloads.Value value) = payloads.Value value
payload_by found (payloads.Referent id) = payloads.Referent (unwrap_or (found id) id)

abbrev pub symbol_by : (List ℕ → Option (List ℕ)) → Symbol → Symbol
symbol_by found s = if s.at_end then record s { payload = payload_by found s.payload } else s
