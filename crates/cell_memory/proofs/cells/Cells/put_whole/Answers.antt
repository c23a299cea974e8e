use Rattle.std.proofs.Common.{◌≡◌, ◌∙◌, length, replicate, take, ap, arith}
use Rattle.std.proofs.lemmas.List.{length-replicate, length-take}
use Rattle.cell_memory.specs.declared.cells.TheConstants.{MARKS}
use Rattle.cell_memory.specs.Shown.{kept_in, cells_from, part_of, with_part}
use Rattle.cell_memory.proofs.Changes.{put_cells, same_outside, whole_cells}
use Rattle.cell_memory.proofs.Runs.{length-cells}
use Rattle.sym_expr.specs.States.{parts_from}
use Rattle.cell_memory.proofs.cells.Cells.put_whole.Goals as goal

pub fill_part-requires : goal.fill_part-requires
fill_part-requires c = let all = length-cells (kept_in c.args.self.now) 0 c.args.self.now.bytes.items c.args.self.now.marks.items in omega arith

pub put_part-requires : goal.put_part-requires
put_part-requires c = let all = length-cells (kept_in c.args.self.now) 0 c.args.self.now.bytes.items c.args.self.now.marks.items in omega (arith, length-take c.args.count MARKS)

pub returns-clause-ok : goal.returns-clause-ok
returns-clause-ok c =
    let self = c.args.self.now in
    let old = kept_in self in
    let new = kept_in (record self { wholes = c.keep.new.wholes }) in
    let n = c.args.count in
    let put = c.in_ok-keep.ensures.ok in
    let few : length (take n MARKS) ≡ n = omega (arith, length-take n MARKS) in
    ap (λ bs. cells_from new 0 bs c.put_part.new.list.items) c.fill_part.ensures ∙ ap (cells_from new 0 (with_part self.bytes.items c.args.at (replicate n n))) c.put_part.ensures
    ∙ put_cells old new c.args.at n (same_outside old new c.args.at n c.args.whole put) self.bytes.items self.marks.items (replicate n n) (take n MARKS) (parts_from n 0 (part_of c.args.whole)) (length-replicate n n) few c.requires.inside
    (whole_cells old new c.args.at n c.args.whole put c.requires.count)
