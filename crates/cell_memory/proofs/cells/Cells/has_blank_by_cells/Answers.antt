use Rattle.std.proofs.Common.{◌∙◌, ◌+◌, ◌||◌, take, drop, sym, ap, arith}
use Rattle.std.specs.List.{list_any}
use Rattle.cell_memory.specs.Shown.{kept_in, shown}
use Rattle.cell_memory.proofs.Parts.{blanks_step}
use Rattle.cell_memory.proofs.Runs.{length-cells}
use Rattle.sym_expr.specs.Symbolic.{is_blank}
use Rattle.cell_memory.proofs.cells.Cells.has_blank_by_cells.Goals as goal

pub overflow_add-at : goal.overflow_add-at
overflow_add-at c = let all = length-cells (kept_in c.args.self.now) 0 c.args.self.now.bytes.items c.args.self.now.marks.items in omega arith

pub returns-then-is_blank : goal.returns-then-is_blank
returns-then-is_blank c =
    let cs = shown c.args.self.now in
    let done = c.loop-done.done in
    sym (c.loop-done.invariant.same ∙ blanks_step cs c.args.at c.args.count done c.requires c.is_blank.result c.loop-done-test.true c.is_blank.ensures
    ∙ ap (λ t. t || list_any is_blank (drop (done + 1) (take c.args.count (drop c.args.at cs)))) c.if-is_blank.true)
