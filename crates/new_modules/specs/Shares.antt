-- The stretches of a program by the sections that they come from.
use Rattle.std.specs.Prelude.{if◌then◌else◌, List, []}
use Rattle.gt_model.specs.declared.modules.Module.{Module}
use Rattle.gt_model.specs.declared.modules.Section.{Section}
use Rattle.sym_expr.specs.declared.patches.PatchTable.{PatchTable}
use Rattle.sym_expr.specs.declared.program.Stretch.{Stretch}
use Rattle.sym_expr.specs.Modules.{is_loaded}
use Rattle.sym_expr.specs.Program.{section_stretches}
use Rattle.sym_expr.specs.Tables.{Tables}

-- those of a section, none of one that isn't loaded
abbrev pub share : Module → Tables → PatchTable → Section → List Stretch
share m t p s = if is_loaded s then section_stretches m t p s else []
