-- What the tables of a module are repaired with.
use Rattle.std.specs.Prelude.{◌≡◌, None, Some, Contains}
use Rattle.aux_codec.specs.Places.{with_places, IsInjectiveOn}
use Rattle.aux_codec.specs.Spelling.{HasType}
use Rattle.aux_codec.specs.Value.{Value}
use Rattle.aux_tables.specs.ModuleTables.{shape_of_table, table_value, tables_of}
use Rattle.aux_types.specs.Shape.{Shape}
use Rattle.edge_repair.specs.Sets.{parts_of}
use Rattle.gt_model.specs.declared.ir.Ir.{Ir}
use Rattle.gt_model.specs.declared.modules.Module.{Module}
use Rattle.gt_model.specs.declared.tables.Aux.{Aux}
use Rattle.module_program.specs.Graphs.{patched_in}
use Rattle.moved_places.specs.Moved.{place_to}
use Rattle.new_tables.specs.declared.repair.Repair.{Repair}
use Rattle.function_tables.specs.Later.{later_of}
use Rattle.rewrite.specs.Places.{moved_place}
use Rattle.sym_expr.specs.declared.patches.PatchTable.{PatchTable}
use Rattle.taken_ids.specs.Faults.{id_fault}

-- the moves and later parts are those of the module with the patches, and no identifier that these derive was taken
pub record IsReady (r : Repair) : Type 0 where
  pub ir : Ir
  pub free : id_fault ir r.module.now r.patches.now ≡ None
  pub moves : place_to r.moves ≡ moved_place r.module.now (tables_of r.module.now) r.patches.now
  pub later : later_of r.later ≡ parts_of r.module.now (patched_in r.module.now r.patches.now)

-- a value is one of a table's type
abbrev pub IsOf : Aux → Value → Type 0
IsOf a x = (shape : Shape) → shape_of_table a ≡ Some shape → HasType shape x

-- no two Places of a table go to one
abbrev pub StaysApart : Module → PatchTable → Aux → Type 0
StaysApart m p a = (x : Value) → table_value a ≡ Some x → IsInjectiveOn (moved_place m (tables_of m) p) x

-- a value is that of a table of the module, with its Places moved
pub record IsMoved (m : Module) (p : PatchTable) (a : Aux) (y : Value) : Type 0 where
  pub there : Contains m.aux a
  pub old : Value
  pub held : table_value a ≡ Some old
  pub moved : y ≡ with_places (moved_place m (tables_of m) p) old
  pub was : IsOf a old
  pub typed : IsOf a y
