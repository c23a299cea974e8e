use Rattle.std.proofs.Common.{◌∙◌, length, map, replicate, refl, ap, arith}
use Rattle.std.proofs.lemmas.List.{length-replicate}
use Rattle.cell_memory.specs.Shown.{kept_in, cells_from, with_part}
use Rattle.cell_memory.proofs.Changes.{byte_cells, put_cells, unchanged}
use Rattle.cell_memory.proofs.Runs.{length-cells}
use Rattle.sym_expr.specs.Values.{Byte}
use Rattle.cell_memory.proofs.cells.Cells.put_bytes.Goals as goal

pub put_part-requires : goal.put_part-requires
put_part-requires c = let all = length-cells (kept_in c.args.self.now) 0 c.args.self.now.bytes.items c.args.self.now.marks.items in omega arith

pub fill_part-requires : goal.fill_part-requires
fill_part-requires c = let all = length-cells (kept_in c.args.self.now) 0 c.args.self.now.bytes.items c.args.self.now.marks.items in omega arith

pub returns-clause-cells : goal.returns-clause-cells
returns-clause-cells c =
    let self = c.args.self.now in
    let kept = kept_in self in
    let n = length c.args.bytes.now in
    ap (λ bs. cells_from kept 0 bs c.fill_part.new.list.items) c.put_part.ensures ∙ ap (cells_from kept 0 (with_part self.bytes.items c.args.at c.args.bytes.now)) c.fill_part.ensures
    ∙ put_cells kept kept c.args.at n (unchanged kept c.args.at n) self.bytes.items self.marks.items c.args.bytes.now (replicate n 0) (map Byte c.args.bytes.now) refl (length-replicate n 0) c.requires (byte_cells kept c.args.at c.args.bytes.now)
