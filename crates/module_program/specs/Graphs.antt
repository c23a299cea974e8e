-- Modules of graphs as programs.
use Rattle.std.specs.Prelude.{ℕ}
use Rattle.aux_tables.specs.ModuleTables.{tables_of}
use Rattle.gt_model.specs.declared.modules.Module.{Module}
use Rattle.node_arena.specs.Arenas.{Arenas, module_at}
use Rattle.node_arena.specs.declared.ids.ModuleId.{ModuleId}
use Rattle.node_arena.specs.Plain.{ir_of, plain_module}
use Rattle.sym_expr.specs.declared.patches.PatchTable.{PatchTable}
use Rattle.sym_expr.specs.declared.program.Program.{Program}
use Rattle.sym_expr.specs.Linkable.{formed}
use Rattle.sym_expr.specs.Patches.{no_patches}
use Rattle.sym_expr.specs.Program.{program}

-- a module can be laid out and linked
abbrev pub formed_at : Arenas → ModuleId → Type 0
formed_at g id = let m = plain_module g (module_at g id) in formed (ir_of g) m (tables_of m)

-- the program of a module and of patches, with the tables that the module has
abbrev pub patched_in : Module → PatchTable → Program
patched_in m p = program m (tables_of m) p

-- the same of a module of a graph
abbrev pub patched_at : Arenas → ModuleId → PatchTable → Program
patched_at g id p = patched_in (plain_module g (module_at g id)) p

-- the program of a module without patches, with the tables that it has
abbrev pub program_in : Module → Program
program_in m = program m (tables_of m) no_patches

-- the same of a module of a graph
abbrev pub program_at : Arenas → ModuleId → Program
program_at g id = program_in (plain_module g (module_at g id))
