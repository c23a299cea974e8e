use Rattle.std.proofs.Common.{◌∙◌, replicate, ap, arith}
use Rattle.std.proofs.lemmas.List.{length-replicate}
use Rattle.cell_memory.specs.Shown.{kept_in, cells_from, with_part}
use Rattle.cell_memory.proofs.Changes.{blank_cells, put_cells, unchanged}
use Rattle.cell_memory.proofs.Runs.{length-cells}
use Rattle.sym_expr.specs.Values.{Blank}
use Rattle.cell_memory.proofs.cells.Cells.put_blank.Goals as goal

pub fill_part-requires : goal.fill_part-requires
fill_part-requires c = let all = length-cells (kept_in c.args.self.now) 0 c.args.self.now.bytes.items c.args.self.now.marks.items in omega arith

pub fill_part-requires-2 : goal.fill_part-requires-2
fill_part-requires-2 c = let all = length-cells (kept_in c.args.self.now) 0 c.args.self.now.bytes.items c.args.self.now.marks.items in omega arith

pub returns : goal.returns
returns c =
    let self = c.args.self.now in
    let kept = kept_in self in
    let n = c.args.count in
    ap (λ bs. cells_from kept 0 bs c.fill_part-2.new.list.items) c.fill_part.ensures ∙ ap (cells_from kept 0 (with_part self.bytes.items c.args.at (replicate n 0))) c.fill_part-2.ensures
    ∙ put_cells kept kept c.args.at n (unchanged kept c.args.at n) self.bytes.items self.marks.items (replicate n 0) (replicate n 1) (replicate n Blank) (length-replicate n 0) (length-replicate n 1) c.requires (blank_cells kept c.args.at n)
