-- The program of a repaired module.
use Rattle.edge_repair.specs.Repaired.{repaired_module}
use Rattle.gt_model.specs.declared.modules.Module.{Module}
use Rattle.rewrite.specs.Places.{moved_tables}
use Rattle.sym_expr.specs.declared.patches.PatchTable.{PatchTable}
use Rattle.sym_expr.specs.declared.program.Program.{Program}
use Rattle.sym_expr.specs.Patches.{no_patches}
use Rattle.sym_expr.specs.Program.{program}
use Rattle.sym_expr.specs.Tables.{Tables}

-- it needs no patches, and its tables are those of the module with their places moved
abbrev pub repaired_program : Module → Tables → PatchTable → Program
repaired_program m t p = program (repaired_module m t p) (moved_tables m t p) no_patches
