-- The Places in a table: their identifiers are named, and none is past what it names where nothing is wrong.
use Rattle.std.proofs.Common.{◌≡◌, inl, inr, false, List, [], ◌++◌, Some, sym, ap, subst}
use Rattle.std.specs.Prelude.{filter}
use Rattle.std.specs.Option.{option_map_or}
use Rattle.std.proofs.lemmas.Bool.{false_from_ne_true}
use Rattle.aux_codec.specs.declared.value.Place.{Place}
use Rattle.aux_codec.specs.Places.{places_of, places_of_each, places_of_entries}
use Rattle.aux_codec.specs.Value.{Value, At, Many, Pairs, Parts, Choice, Values, none, more, Entries, no_entry, entry}
use Rattle.aux_tables.specs.ModuleTables.{table_places, table_value}
use Rattle.gt_model.specs.declared.intervals.Interval.{Interval}
use Rattle.gt_model.specs.declared.modules.Module.{Module}
use Rattle.gt_model.specs.declared.tables.Aux.{Aux}
use Rattle.ir_check.specs.Faults.{bad_places, bad_places_in, is_past}
use Rattle.node_arena.specs.declared.fault.CheckFault.TheVariants as faults
use Rattle.taken_ids.specs.Named.{ids_of, ids_of_each, ids_of_entries, named_ids, table_ids}
use Rattle.rewritten_links.proofs.Lists.{In, in_back, in_either, in_filter, in_flat, in_front, in_map}

mutual
  pub place_named : (x : Value) (place : Place) → In place (places_of x) → In place.id (ids_of x)
  place_named (At at) place (inl e) = inl (ap (λ (y : Place). y.id) e)
  place_named (At at) place (inr h) = absurd h
  place_named (Many xs) place h = place_named_each xs place h
  place_named (Pairs es) place h = place_named_entries es place h
  place_named (Parts xs) place h = place_named_each xs place h
  place_named (Choice n x) place h = place_named x place h
  place_named _ place h = absurd h

  place_named_each : (xs : Values) (place : Place) → In place (places_of_each xs) → In place.id (ids_of_each xs)
  place_named_each none place h = absurd h
  place_named_each (more x xs) place h =
      elim (in_either place (places_of x) (places_of_each xs) h) [
        | inl k ↦ in_front place.id (ids_of x) (ids_of_each xs) (place_named x place k)
        | inr k ↦ in_back place.id (ids_of x) (ids_of_each xs) (place_named_each xs place k)
      ]

  place_named_entries : (es : Entries) (place : Place) → In place (places_of_entries es) → In place.id (ids_of_entries es)
  place_named_entries no_entry place h = absurd h
  place_named_entries (entry k x es) place h =
      elim (in_either place (places_of k) (places_of x ++ places_of_entries es) h) [
        | inl l ↦ in_front place.id (ids_of k) (ids_of x ++ ids_of_entries es) (place_named k place l)
        | inr l ↦
            in_back place.id (ids_of k) (ids_of x ++ ids_of_entries es)
            (elim (in_either place (places_of x) (places_of_entries es) l) [
              | inl n ↦ in_front place.id (ids_of x) (ids_of_entries es) (place_named x place n)
              | inr n ↦ in_back place.id (ids_of x) (ids_of_entries es) (place_named_entries es place n)
            ])
      ]

-- what a table of the module names
pub named_in : (m : Module) (a : Aux) (x : Value) (place : Place) → In a m.aux → table_value a ≡ Some x → In place (places_of x) → In place.id (named_ids m)
named_in m a x place h e k =
    in_flat table_ids a place.id m.aux h (subst (λ o. In place.id (option_map_or ids_of o [])) (sym e) (place_named x place k))

pub not_past : (is : List Interval) (tables : List Aux) (a : Aux) (x : Value) (place : Place) → bad_places is tables ≡ [] → In a tables → table_value a ≡ Some x → In place (places_of x) → is_past is place ≡ false
not_past is tables a x place good h e k =
    let there : In place (table_places a) = subst (λ o. In place (option_map_or places_of o [])) (sym e) k in
    let fault = faults.BadPlace a.name place.id place.offset in
    false_from_ne_true (is_past is place) (λ past.
    subst (In fault) good (in_flat (bad_places_in is) a fault tables h (in_map (λ (q : Place). faults.BadPlace a.name q.id q.offset) place (filter (is_past is) (table_places a)) (in_filter (is_past is) place (table_places a) past there))))
