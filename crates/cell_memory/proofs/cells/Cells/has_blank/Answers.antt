use Rattle.std.proofs.Common.{◌∙◌, sym, ap}
use Rattle.std.specs.List.{list_any}
use Rattle.cell_memory.proofs.RunCells.{parts_known}
use Rattle.sym_expr.specs.Symbolic.{is_blank}
use Rattle.cell_memory.proofs.cells.Cells.has_blank.Goals as goal

pub returns-in-Some : goal.returns-in-Some
returns-in-Some c = sym (ap (list_any is_blank) c.in-Some.ensures ∙ parts_known c.in-Some.field-0 c.args.count 0)
