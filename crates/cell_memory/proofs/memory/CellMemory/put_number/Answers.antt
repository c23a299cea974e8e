use Rattle.std.proofs.Common.{◌∙◌, ap, map, take}
use Rattle.cell_memory.specs.Memory.{cells_of, placed_in}
use Rattle.cell_memory.proofs.Numbers.{low_cells}
use Rattle.sym_expr.specs.Values.{Byte}
use Rattle.cell_memory.proofs.memory.CellMemory.put_number.Goals as goal

pub returns-clause-cells : goal.returns-clause-cells
returns-clause-cells c =
    c.put_bytes.ensures.cells
    ∙ ap (λ cs. placed_in (cells_of c.args.self.now) c.args.object c.args.at cs) (ap (λ bs. map Byte (take c.args.count bs)) c.to_le_bytes.ensures ∙ low_cells c.args.count c.args.n c.requires.count)
