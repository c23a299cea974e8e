-- Where no Place is past what it names, no size is of a byte behind a loaded interval.
use Rattle.std.proofs.Common.{◌≡◌, ℕ, ◌≤◌, inl, inr, Bool, false, List, [], ◌++◌, Option, Some, None, refl, sym, ap, subst, ◌∙◌}
use Rattle.std.specs.Prelude.{codes, filter, find, nat_lt}
use Rattle.std.specs.Option.{option_and_then, option_map, option_map_or, option_or, option_to_list}
use Rattle.std.proofs.lemmas.Bool.{false_from_ne_true, ltb-false}
use Rattle.aux_codec.specs.declared.value.Place.{Place}
use Rattle.aux_codec.specs.Places.{places_of, places_of_entries}
use Rattle.aux_codec.specs.Value.{Value, At, Number, Pairs, Entries, no_entry, entry}
use Rattle.aux_tables.specs.ModuleTables.{is_table, size_entry, sizes_in, sizes_of, table_places, table_value, tables_of}
use Rattle.gt_model.specs.declared.intervals.Interval.{Interval}
use Rattle.gt_model.specs.declared.modules.Module.{Module}
use Rattle.gt_model.specs.declared.tables.Aux.{Aux}
use Rattle.ir_check.specs.Faults.{bad_places, bad_places_in, code_size as size_of_code_at, is_past, size_named}
use Rattle.node_arena.specs.declared.fault.CheckFault.TheVariants as faults
use Rattle.rewrite.specs.Places.{loaded_interval}
use Rattle.sym_expr.specs.Modules.{loaded_intervals}
use Rattle.repaired_images.proofs.Lists.{found_in, In, in_back, in_either, in_filter, in_flat, in_front, in_map}

-- ---- the Places of a table

not_past : (is : List Interval) (tables : List Aux) (a : Aux) (x : Value) (place : Place) → bad_places is tables ≡ [] → In a tables → table_value a ≡ Some x → In place (places_of x) → is_past is place ≡ false
not_past is tables a x place good h e k =
    let there : In place (table_places a) = subst (λ o. In place (option_map_or places_of o [])) (sym e) k in
    let fault = faults.BadPlace a.name place.id place.offset in
    false_from_ne_true (is_past is place) (λ past.
    subst (In fault) good (in_flat (bad_places_in is) a fault tables h (in_map (λ (q : Place). faults.BadPlace a.name q.id q.offset) place (filter (is_past is) (table_places a)) (in_filter (is_past is) place (table_places a) past there))))

in_size : (is : List Interval) (place : Place) (size : ℕ) → size_named is place.id ≡ Some size → is_past is place ≡ false → place.offset ≤ size
in_size is place size e h = ltb-false size place.offset (sym (ap (λ o. option_map_or (λ n. nat_lt n place.offset) o false) e) ∙ h)

in_interval : (m : Module) (i : Interval) (place : Place) → loaded_interval m place.id ≡ Some i → is_past (loaded_intervals m) place ≡ false → place.offset ≤ i.size
in_interval m i place e past = in_size (loaded_intervals m) place i.size (ap (λ o. option_or (option_map (λ (j : Interval). j.size) o) (size_of_code_at (loaded_intervals m) place.id)) e) past

-- ---- the sizes of expressions

abbrev Size : Type 0
Size = (List ℕ × ℕ) × ℕ

abbrev pub place_of_size : (List ℕ × ℕ) × ℕ → Place
place_of_size e = record { id = e.0.0; offset = e.0.1 }

entry_place : (key value : Value) (e : (List ℕ × ℕ) × ℕ) → In e (option_to_list (size_entry key value)) → In (place_of_size e) (places_of key)
entry_place (At place) (Number n) e (inl d) = inl (ap place_of_size d)
entry_place (At place) (Number n) e (inr h) = absurd h
entry_place (At place) _ e h = absurd h
entry_place _ _ e h = absurd h

entries_place : (es : Entries) (e : (List ℕ × ℕ) × ℕ) → In e (sizes_in es) → In (place_of_size e) (places_of_entries es)
entries_place no_entry e h = absurd h
entries_place (entry key value rest) e h =
    elim (in_either e (option_to_list (size_entry key value)) (sizes_in rest) h) [
      | inl k ↦ in_front (place_of_size e) (places_of key) (places_of value ++ places_of_entries rest) (entry_place key value e k)
      | inr k ↦ in_back (place_of_size e) (places_of key) (places_of value ++ places_of_entries rest) (in_back (place_of_size e) (places_of value) (places_of_entries rest) (entries_place rest e k))
    ]

value_place : (x : Value) (e : (List ℕ × ℕ) × ℕ) → In e (sizes_of x) → In (place_of_size e) (places_of x)
value_place (Pairs es) e h = entries_place es e h
value_place _ e h = absurd h

module _ (m : Module) (good : bad_places (loaded_intervals m) m.aux ≡ []) where
  table_past : (a : Aux) (o : Option Value) (e : (List ℕ × ℕ) × ℕ) → In a m.aux → table_value a ≡ o → In e (option_map_or sizes_of o []) → is_past (loaded_intervals m) (place_of_size e) ≡ false
  table_past a None e k q h = absurd h
  table_past a (Some x) e k q h = not_past (loaded_intervals m) m.aux a x (place_of_size e) good k q (value_place x e h)

  found_past : (o : Option Aux) (e : (List ℕ × ℕ) × ℕ) → ((a : Aux) → o ≡ Some a → In a m.aux) → In e (option_map_or sizes_of (option_and_then table_value o) []) → is_past (loaded_intervals m) (place_of_size e) ≡ false
  found_past None e k h = absurd h
  found_past (Some a) e k h = table_past a (table_value a) e (k a refl) refl h

  pub size_inside : (i : Interval) (e : (List ℕ × ℕ) × ℕ) → In e (tables_of m).sizes → loaded_interval m e.0.0 ≡ Some i → e.0.1 ≤ i.size
  size_inside i e h found =
      let test : Aux → Bool = is_table (codes "symbolicExpressionSizes") (codes "mapping<Offset,uint64_t>") in
      in_interval m i (place_of_size e) found (found_past (find test m.aux) e (λ a q. (found_in test a m.aux q).0) h)
