-- The labels of a module's symbols, and where they stand.
use Rattle.std.specs.Prelude.{ℕ, suc, ◌==◌, ◌&&◌, Bool, false, if◌then◌else◌, List, [], ◌∷◌, ◌++◌, length, filter, find, map, Option, None, Some, unwrap_or}
use Rattle.std.specs.List.{flat_map}
use Rattle.std.specs.Option.{option_and_then, option_map}
use Rattle.std.specs.Str.{bytes_eq}
use Rattle.gt_model.specs.declared.intervals.Block.{Block}
use Rattle.gt_model.specs.declared.intervals.Interval.{Interval}
use Rattle.gt_model.specs.declared.modules.Module.{Module}
use Rattle.gt_model.specs.declared.symbols.Payload.{Payload}
use Rattle.gt_model.specs.declared.symbols.Payload.TheVariants as payloads
use Rattle.gt_model.specs.declared.symbols.Symbol.{Symbol}
use Rattle.sym_expr.specs.Modules.{end_of, id_of, loaded_intervals}
use Rattle.asm_spelling.specs.Labels.{label_text}
use Rattle.asm_print.specs.declared.spot.Spot.{Spot}

-- how many of the symbols have a name
abbrev pub named : List ℕ → List Symbol → ℕ
named name symbols = length (filter (λ (s : Symbol). bytes_eq s.name name) symbols)

-- symbols behind others: each with its label, which counts those of its name
abbrev pub labels_behind : List Symbol → List Symbol → List (List ℕ × List ℕ)
labels_behind before [] = []
labels_behind before (s ∷ ss) = (s.uuid, label_text s.name (suc (named s.name before))) ∷ labels_behind (before ++ s ∷ []) ss

-- the value of a key, by when keys are equal; of several entries of one key the first counts
abbrev pub value_at : {K V : Type 0} → (K → K → Bool) → K → List (K × V) → Option V
value_at {K} {V} eq key entries = option_map (λ (e : K × V). e.1) (find (λ (e : K × V). eq e.0 key) entries)

-- the label of a symbol
abbrev pub label_of : Module → List ℕ → List ℕ
label_of m id = unwrap_or (value_at bytes_eq id (labels_behind [] m.symbols)) []

-- where a block of an interval begins and ends
abbrev pub spot : Interval → Block → List ℕ × Spot
spot i b = (id_of b, record { interval = i.uuid; start = b.offset; end = end_of b })

-- the spots of an interval's blocks
abbrev pub spots_in : Interval → List (List ℕ × Spot)
spots_in i = map (spot i) i.blocks

-- those of the blocks of loaded sections
abbrev pub spots : Module → List (List ℕ × Spot)
spots m = flat_map spots_in (loaded_intervals m)

-- an interval and an offset in it: the start of a spot, or its end
abbrev pub place_in : Bool → Spot → List ℕ × ℕ
place_in at_end x = (x.interval, if at_end then x.end else x.start)

abbrev pub payload_place : Module → Bool → Payload → Option (List ℕ × ℕ)
payload_place m at_end payloads.Nothing = None
payload_place m at_end (payloads.Value value) = None
payload_place m at_end (payloads.Referent id) = option_map (place_in at_end) (value_at bytes_eq id (spots m))

-- where a symbol stands, if it stands for a block of a loaded section
abbrev pub place_of : Module → Symbol → Option (List ℕ × ℕ)
place_of m s = payload_place m s.at_end s.payload

-- two places are one
abbrev pub same_place : List ℕ × ℕ → List ℕ × ℕ → Bool
same_place a b = bytes_eq a.0 b.0 && (a.1 == b.1)

-- where the entry is
abbrev pub entry_place : Module → Option (List ℕ × ℕ)
entry_place m = option_and_then (λ id. option_map (place_in false) (value_at bytes_eq id (spots m))) m.entry
