use Rattle.std.proofs.Common.{◌∙◌, ap, map, take}
use Rattle.cell_memory.specs.Shown.{shown}
use Rattle.cell_memory.proofs.Numbers.{low_cells}
use Rattle.sym_expr.specs.States.{placed_cells}
use Rattle.sym_expr.specs.Values.{Byte}
use Rattle.cell_memory.proofs.cells.Cells.put_number.Goals as goal

pub returns : goal.returns
returns c =
    c.put_bytes.ensures.cells ∙ ap (λ cs. placed_cells c.args.at cs (shown c.args.self.now)) (ap (λ bs. map Byte (take c.args.count bs)) c.to_le_bytes.ensures ∙ low_cells c.args.count c.args.n c.requires.count)
