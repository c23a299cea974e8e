-- What a repaired module keeps of the sizes of its expressions.
use Rattle.std.specs.Prelude.{◌≡◌}
use Rattle.gt_model.specs.declared.exprs.Expr.{Expr}
use Rattle.gt_model.specs.declared.intervals.Interval.{Interval}
use Rattle.gt_model.specs.declared.modules.Module.{Module}
use Rattle.rewrite.specs.Offsets.{new_offset}
use Rattle.rewrite.specs.Places.{moved_tables}
use Rattle.sym_expr.specs.declared.patches.PatchTable.{PatchTable}
use Rattle.sym_expr.specs.Program.{stretch}
use Rattle.sym_expr.specs.Tables.{Tables, expr_size}

-- at the new place of its byte an expression has the size that it had before
abbrev pub KeepsSize : Module → Tables → PatchTable → Interval → Expr → Type 0
KeepsSize m t p i e = expr_size (moved_tables m t p) i.uuid (new_offset (stretch m t p i) e.at) ≡ expr_size t i.uuid e.at
