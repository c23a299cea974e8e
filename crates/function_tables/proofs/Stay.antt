-- The values of tables of functions have no Places, and name what was taken.
use Rattle.std.proofs.Common.{◌≡◌, ℕ, zero, suc, ◌<◌, Option, Some, None, List, [], ◌∷◌, ◌++◌, length, get_or, refl, sym, ap, ap₂, subst, ◌∙◌, inl, inr, arith}
use Rattle.std.specs.Prelude.{Contains}
use Rattle.std.specs.List.{flat_map}
use Rattle.std.specs.Option.{option_map_or}
use Rattle.aux_types.specs.Shape.{Plain, Set}
use Rattle.aux_types.specs.declared.name.Scalar.TheVariants as s
use Rattle.aux_codec.specs.declared.value.Place.{Place}
use Rattle.aux_codec.specs.Places.{each_with_places, entries_with_places, with_places}
use Rattle.aux_codec.specs.Spelling.{Each, EachEntry, HasType}
use Rattle.aux_codec.specs.Value.{Value, Str, Truth, Id, Number, Signed, At, Four, Eight, Many, Pairs, Parts, Choice, Values, none, more, Entries, no_entry, entry}
use Rattle.aux_tables.specs.ModuleTables.{table_value}
use Rattle.gt_model.specs.declared.ir.Ir.{Ir}
use Rattle.gt_model.specs.declared.modules.Module.{Module}
use Rattle.gt_model.specs.declared.tables.Aux.{Aux}
use Rattle.gt_model.specs.Nodes.{nodes, ids}
use Rattle.function_tables.specs.declared.kinds.TableKind.{TableKind}
use Rattle.function_tables.specs.declared.kinds.TableKind.TheVariants as kinds
use Rattle.function_tables.specs.Functions.{type_of}
use Rattle.function_tables.proofs.Apart.{in_flat, in_right, IsIn}
use Rattle.function_tables.proofs.Types.{IsIdValue}
use Rattle.taken_ids.specs.Faults.{taken_ids}
use Rattle.taken_ids.specs.Named.{ids_of, named_ids, table_ids}

id_stays : (f : Place → Place) (x : Value) → IsIdValue x → with_places f x ≡ x
id_stays f (Id id) typed = refl
id_stays f (Str y) typed = absurd typed
id_stays f (Truth y) typed = absurd typed
id_stays f (Number y) typed = absurd typed
id_stays f (Signed y) typed = absurd typed
id_stays f (At y) typed = absurd typed
id_stays f (Four y) typed = absurd typed
id_stays f (Eight y) typed = absurd typed
id_stays f (Many y) typed = absurd typed
id_stays f (Pairs y) typed = absurd typed
id_stays f (Parts y) typed = absurd typed
id_stays f (Choice n y) typed = absurd typed

ids_stay : (f : Place → Place) (xs : Values) → Each IsIdValue xs → each_with_places f xs ≡ xs
ids_stay f none typed = refl
ids_stay f (more x xs) typed = ap (λ y. more y (each_with_places f xs)) (id_stays f x typed.0) ∙ ap (more x) (ids_stay f xs typed.1)

set_stays : (f : Place → Place) (x : Value) → HasType (Set (Plain s.Id)) x → with_places f x ≡ x
set_stays f (Many xs) typed = ap Many (ids_stay f xs typed.1)
set_stays f (Str y) typed = absurd typed
set_stays f (Truth y) typed = absurd typed
set_stays f (Id y) typed = absurd typed
set_stays f (Number y) typed = absurd typed
set_stays f (Signed y) typed = absurd typed
set_stays f (At y) typed = absurd typed
set_stays f (Four y) typed = absurd typed
set_stays f (Eight y) typed = absurd typed
set_stays f (Pairs y) typed = absurd typed
set_stays f (Parts y) typed = absurd typed
set_stays f (Choice n y) typed = absurd typed

entries_stay : (f : Place → Place) (Q : Value → Type 0) → ((x : Value) → Q x → with_places f x ≡ x) → (es : Entries) → EachEntry IsIdValue Q es → entries_with_places f es ≡ es
entries_stay f Q stays no_entry typed = refl
entries_stay f Q stays (entry k x es) typed =
    ap (λ y. entry y (with_places f x) (entries_with_places f es)) (id_stays f k typed.0)
    ∙ ap (λ y. entry k y (entries_with_places f es)) (stays x typed.1)
    ∙ ap (entry k x) (entries_stay f Q stays es typed.2)

-- a value of one of the three types stays where Places move
pub value_stays : (f : Place → Place) (kind : TableKind) (es : Entries) → HasType (type_of kind) (Pairs es) → with_places f (Pairs es) ≡ Pairs es
value_stays f kinds.Blocks es typed = ap Pairs (entries_stay f (HasType (Set (Plain s.Id))) (set_stays f) es typed.1)
value_stays f kinds.Entries es typed = ap Pairs (entries_stay f (HasType (Set (Plain s.Id))) (set_stays f) es typed.1)
value_stays f kinds.Names es typed = ap Pairs (entries_stay f IsIdValue (id_stays f) es typed.1)

-- such a value is a mapping
pub mapping_of : (kind : TableKind) (x : Value) → HasType (type_of kind) x → (es : Entries) × (x ≡ Pairs es)
mapping_of kinds.Blocks (Pairs es) typed = (es, refl)
mapping_of kinds.Blocks (Str y) typed = absurd typed
mapping_of kinds.Blocks (Truth y) typed = absurd typed
mapping_of kinds.Blocks (Id y) typed = absurd typed
mapping_of kinds.Blocks (Number y) typed = absurd typed
mapping_of kinds.Blocks (Signed y) typed = absurd typed
mapping_of kinds.Blocks (At y) typed = absurd typed
mapping_of kinds.Blocks (Four y) typed = absurd typed
mapping_of kinds.Blocks (Eight y) typed = absurd typed
mapping_of kinds.Blocks (Many y) typed = absurd typed
mapping_of kinds.Blocks (Parts y) typed = absurd typed
mapping_of kinds.Blocks (Choice n y) typed = absurd typed
mapping_of kinds.Entries (Pairs es) typed = (es, refl)
mapping_of kinds.Entries (Str y) typed = absurd typed
mapping_of kinds.Entries (Truth y) typed = absurd typed
mapping_of kinds.Entries (Id y) typed = absurd typed
mapping_of kinds.Entries (Number y) typed = absurd typed
mapping_of kinds.Entries (Signed y) typed = absurd typed
mapping_of kinds.Entries (At y) typed = absurd typed
mapping_of kinds.Entries (Four y) typed = absurd typed
mapping_of kinds.Entries (Eight y) typed = absurd typed
mapping_of kinds.Entries (Many y) typed = absurd typed
mapping_of kinds.Entries (Parts y) typed = absurd typed
mapping_of kinds.Entries (Choice n y) typed = absurd typed
mapping_of kinds.Names (Pairs es) typed = (es, refl)
mapping_of kinds.Names (Str y) typed = absurd typed
mapping_of kinds.Names (Truth y) typed = absurd typed
mapping_of kinds.Names (Id y) typed = absurd typed
mapping_of kinds.Names (Number y) typed = absurd typed
mapping_of kinds.Names (Signed y) typed = absurd typed
mapping_of kinds.Names (At y) typed = absurd typed
mapping_of kinds.Names (Four y) typed = absurd typed
mapping_of kinds.Names (Eight y) typed = absurd typed
mapping_of kinds.Names (Many y) typed = absurd typed
mapping_of kinds.Names (Parts y) typed = absurd typed
mapping_of kinds.Names (Choice n y) typed = absurd typed

in_from : {X : Type 0} (xs : List X) (i : ℕ) (x : X) → i < length xs → get_or xs i x ≡ x → IsIn x xs
in_from [] i x lt is = absurd (omega arith)
in_from (y ∷ ys) zero x lt is = inl is
in_from (y ∷ ys) (suc i) x lt is = inr (in_from ys i x (omega arith) is)

-- the identifiers in a table of the module were taken
pub named_held : (ir : Ir) (m : Module) (a : Aux) (x : Value) → Contains m.aux a → table_value a ≡ Some x → (v : List ℕ) → IsIn v (ids_of x) → IsIn v (taken_ids ir m)
named_held ir m a x there value v at =
    let here : table_ids a ≡ ids_of x = ap (λ (o : Option Value). option_map_or ids_of o []) value in
    in_right v (ids (nodes ir)) (named_ids m) (in_flat table_ids v a m.aux (in_from m.aux there.0 a there.1 there.2) (subst (IsIn v) (sym here) at))
