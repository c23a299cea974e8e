-- What expressions of a module name in the program of the repaired module, beside what they name in that of the module and its patches.
use Rattle.std.specs.Prelude.{◌≡◌, ℕ, ℤ, pos, List, Some, None}
use Rattle.edge_repair.specs.Repaired.{repaired_module}
use Rattle.gt_model.specs.declared.exprs.Expr.{Expr}
use Rattle.gt_model.specs.declared.exprs.ExprValue.{ExprValue}
use Rattle.gt_model.specs.declared.exprs.ExprValue.TheVariants as values
use Rattle.gt_model.specs.declared.intervals.Interval.{Interval}
use Rattle.gt_model.specs.declared.modules.Module.{Module}
use Rattle.repaired_programs.specs.Named.{IsOneTarget}
use Rattle.repaired_programs.specs.Programs.{repaired_program}
use Rattle.rewrite.specs.Offsets.{new_offset}
use Rattle.rewrite.specs.Places.{moved_tables}
use Rattle.sym_expr.specs.declared.layout.Layout.{Layout}
use Rattle.sym_expr.specs.declared.patches.PatchTable.{PatchTable}
use Rattle.sym_expr.specs.Patches.{no_patches}
use Rattle.sym_expr.specs.Program.{program, stretch}
use Rattle.sym_expr.specs.Tables.{Tables, expr_size}
use Rattle.sym_expr.specs.Targets.{old_target}

-- a symbol plus an offset names one thing in both programs under a layout
abbrev pub IsOneSum : Module → Tables → PatchTable → Layout → ℤ → List ℕ → Type 0
IsOneSum m t p l offset id = IsOneTarget l (repaired_program m t p) (program m t p) (old_target (repaired_module m t p) no_patches id offset) (old_target m p id offset)

-- each symbol that an expression names does
abbrev pub IsOneValue : Module → Tables → PatchTable → Layout → ExprValue → Type 0
IsOneValue m t p l values.Nothing = Unit {0}
IsOneValue m t p l (values.AddrConst offset None) = Unit {0}
IsOneValue m t p l (values.AddrConst offset (Some id)) = IsOneSum m t p l offset id
IsOneValue m t p l (values.AddrAddr scale offset None second) = Unit {0}
IsOneValue m t p l (values.AddrAddr scale offset (Some id) None) = Unit {0}
IsOneValue m t p l (values.AddrAddr scale offset (Some id) (Some other)) = IsOneSum m t p l offset id × IsOneSum m t p l (pos 0) other

-- and at its place it has the size that it had there before
pub record IsOneExpr (m : Module) (t : Tables) (p : PatchTable) (l : Layout) (i : Interval) (e : Expr) : Type 0 where
  pub value : IsOneValue m t p l e.value
  pub size : expr_size (moved_tables m t p) i.uuid e.at ≡ expr_size t i.uuid e.at

-- the same at the new place of its byte
pub record IsOneMoved (m : Module) (t : Tables) (p : PatchTable) (l : Layout) (i : Interval) (e : Expr) : Type 0 where
  pub value : IsOneValue m t p l e.value
  pub size : expr_size (moved_tables m t p) i.uuid (new_offset (stretch m t p i) e.at) ≡ expr_size t i.uuid e.at
