-- The bytes of a table, by the type that it names and what it holds.
use Rattle.std.proofs.Common.{◌≡◌, Option, Some, None, Result, Ok, Err, IfOk, refl, ap}
use Rattle.std.specs.Option.{option_and_then, option_map, option_map_or}
use Rattle.aux_codec.specs.Reading.{read_value}
use Rattle.aux_codec.specs.Spelling.{spelling}
use Rattle.aux_codec.specs.Value.{Value}
use Rattle.aux_tables.specs.ModuleTables.{result_option, shape_of_table, table_value}
use Rattle.aux_types.specs.Shape.{Shape}
use Rattle.edge_repair.specs.Repaired.{new_value, repaired_table, value_bytes}
use Rattle.gt_model.specs.declared.modules.Module.{Module}
use Rattle.gt_model.specs.declared.tables.Aux.{Aux}
use Rattle.sym_expr.specs.declared.patches.PatchTable.{PatchTable}
use Rattle.sym_expr.specs.Tables.{Tables}

-- what follows of a result that is Ok
pub if_ok : {T E : Type 0} {P Q : T → Type 0} (r : Result T E) → ((x : T) → P x → Q x) → IfOk r P → IfOk r Q
if_ok (Ok x) f h = f x h
if_ok (Err e) f h = h

-- what a table of a type holds
pub value_is : (a : Aux) (shape : Shape) → shape_of_table a ≡ Some shape → table_value a ≡ result_option (read_value shape a.bytes)
value_is a shape of = ap (λ (o : Option Shape). option_and_then result_option (option_map (λ s. read_value s a.bytes) o)) of

pub bytes_of_value : (m : Module) (t : Tables) (p : PatchTable) (a : Aux) (shape : Shape) (x : Value) → table_value a ≡ Some x → value_bytes m t p a shape ≡ spelling shape (new_value m t p a x)
bytes_of_value m t p a shape x value = ap (λ (o : Option Value). option_map_or (λ y. spelling shape (new_value m t p a y)) o a.bytes) value

pub bytes_of_none : (m : Module) (t : Tables) (p : PatchTable) (a : Aux) (shape : Shape) → table_value a ≡ None → value_bytes m t p a shape ≡ a.bytes
bytes_of_none m t p a shape value = ap (λ (o : Option Value). option_map_or (λ y. spelling shape (new_value m t p a y)) o a.bytes) value

-- a table of a type that is parsed, and one of another
pub repaired_is : (m : Module) (t : Tables) (p : PatchTable) (a : Aux) (shape : Shape) → shape_of_table a ≡ Some shape → repaired_table m t p a ≡ record a { bytes = value_bytes m t p a shape }
repaired_is m t p a shape of = ap (λ (o : Option Shape). option_map_or (λ s. record a { bytes = value_bytes m t p a s }) o a) of

pub repaired_none : (m : Module) (t : Tables) (p : PatchTable) (a : Aux) → shape_of_table a ≡ None → repaired_table m t p a ≡ a
repaired_none m t p a of = ap (λ (o : Option Shape). option_map_or (λ s. record a { bytes = value_bytes m t p a s }) o a) of

-- only the bytes of a table change
pub only_bytes : (m : Module) (t : Tables) (p : PatchTable) (a : Aux) → repaired_table m t p a ≡ record a { bytes = (repaired_table m t p a).bytes }
only_bytes m t p a = by_type (shape_of_table a)
  where
    by_type : (o : Option Shape) → option_map_or (λ s. record a { bytes = value_bytes m t p a s }) o a ≡ record a { bytes = (option_map_or (λ s. record a { bytes = value_bytes m t p a s }) o a).bytes }
    by_type None = refl
    by_type (Some s) = refl
