-- The tables as the checks read them. What a check is stands in the other files.
use Rattle.std.specs.Prelude.{ℕ, Bool, List, find, Option}
use Rattle.std.specs.Option.{option_map, option_and_then}
use Rattle.aux_codec.specs.declared.value.Place.{Place}
use Rattle.aux_tables.specs.Found.{places_held}
use Rattle.gt_model.specs.declared.tables.Aux.{Aux}
use Rattle.node_arena.specs.declared.fault.CheckFault.{CheckFault}
use Rattle.node_arena.specs.declared.fault.CheckFault.TheVariants as faults

-- the first Place for which a test holds
abbrev pub past_in : (Place → Bool) → Option (List Place) → Option Place
past_in is_past places = option_and_then (λ (ps : List Place). find is_past ps) places

abbrev pub bad_place_in : (Place → Bool) → List ℕ → Option (List Place) → Option CheckFault
bad_place_in is_past name places = option_map (λ (p : Place). faults.BadPlace name p.id p.offset) (past_in is_past places)

abbrev pub bad_place_of : (Place → Bool) → Aux → Option CheckFault
bad_place_of is_past a = bad_place_in is_past a.name (places_held a)
