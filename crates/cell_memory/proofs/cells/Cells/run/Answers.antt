use Rattle.std.proofs.Common.{◌≡◌, ◌+◌, ◌-◌, ◌∙◌, take, drop, sym, arith}
use Rattle.cell_memory.specs.declared.whole.Whole.{Whole}
use Rattle.cell_memory.specs.Shown.{kept_in, part_of, shown}
use Rattle.cell_memory.proofs.RunCells.{if_some, run_read}
use Rattle.cell_memory.proofs.Runs.{length-cells}
use Rattle.sym_expr.specs.States.{parts_from}
use Rattle.cell_memory.proofs.cells.Cells.run.Goals as goal

pub overflow_add-end : goal.overflow_add-end
overflow_add-end c = let all = length-cells (kept_in c.args.self.now) 0 c.args.self.now.bytes.items c.args.self.now.marks.items in omega arith

pub slice_bounds-run_count-end : goal.slice_bounds-run_count-end
slice_bounds-run_count-end c = let all = length-cells (kept_in c.args.self.now) 0 c.args.self.now.bytes.items c.args.self.now.marks.items in omega arith

pub slice_bounds-run_count-end-2 : goal.slice_bounds-run_count-end-2
slice_bounds-run_count-end-2 c = let all = length-cells (kept_in c.args.self.now) 0 c.args.self.now.bytes.items c.args.self.now.marks.items in omega arith

pub returns-in-Some : goal.returns-in-Some
returns-in-Some c =
    let self = c.args.self.now in
    let at = c.args.at in
    let count = c.args.count in
    let same : at + count - at ≡ count = omega arith in
    if_some (λ (w : Whole). take count (drop at (shown self)) ≡ parts_from count 0 (part_of w)) c.kept.result (λ w is.
    run_read (kept_in self) self.bytes.items self.marks.items c.deref.result.now c.deref-2.result.now at count (at + count - at) c.in-Some.all w c.deref.ensures.value c.deref-2.ensures.value same c.requires.inside
    c.in-Some.ensures.bytes c.in-Some.ensures.marks c.in-Some.ensures.within c.requires.most (sym c.kept.ensures ∙ is))
