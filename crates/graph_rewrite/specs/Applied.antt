-- Graphs in which a module was rewritten.
use Rattle.std.specs.Prelude.{◌≡◌, None, Some, slice_get}
use Rattle.aux_tables.specs.ModuleTables.{tables_of}
use Rattle.graph_rewrite.specs.declared.moved.Moved.{Moved}
use Rattle.graph_rewrite.specs.Moved.{moved_of}
use Rattle.gt_model.specs.declared.ir.Ir.{Ir}
use Rattle.gt_model.specs.declared.modules.Module.{Module}
use Rattle.node_arena.specs.Arenas.{Arenas}
use Rattle.node_arena.specs.declared.ids.ModuleId.{ModuleId}
use Rattle.node_arena.specs.Plain.{ir_of}
use Rattle.rewrite.specs.Rewritten.{rewritten}
use Rattle.sym_expr.specs.declared.patches.PatchTable.{PatchTable}
use Rattle.sym_expr.specs.Linkable.{formed}
use Rattle.sym_expr.specs.TableOk.{table_ok}
use Rattle.taken_ids.specs.Faults.{id_fault}

-- the graph has what patches make of a module of an IR, before edges and tables are repaired, and this is what they move
pub record IsApplied (g : Arenas) (id : ModuleId) (moved : Moved) (ir : Ir) (m : Module) (p : PatchTable) : Type 0 where
  pub program : formed ir m (tables_of m)
  pub accepted : table_ok m p
  pub free : id_fault ir m p ≡ None
  pub place : slice_get ir.modules id.index ≡ Some m
  pub graph : ir_of g ≡ rewritten ir m.uuid (tables_of m) p
  pub moves : moved ≡ moved_of ir m p

-- the same of some IR, module and patches
abbrev pub WasApplied : Arenas → ModuleId → Moved → Type 0
WasApplied g id moved = (ir : Ir) × (m : Module) × (p : PatchTable) × IsApplied g id moved ir m p
