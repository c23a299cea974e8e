use Rattle.std.proofs.Common.{◌≡◌, ◌≤◌, ◌+◌, ◌-◌, ◌∙◌, length, drop, sym, ap, subst, arith}
use Rattle.cell_memory.specs.Blocks.{Fits}
use Rattle.cell_memory.proofs.Filled.{all_dropped, at_item, length-first_cells, split_before}
use Rattle.sym_expr.specs.Images.{filling_size}
use Rattle.sym_expr.specs.States.{filling_cells, first_cells, placed_cells}
use Rattle.cell_memory.proofs.block.block_cells.Goals as goal

pub put_filling-requires : goal.put_filling-requires
put_filling-requires c =
    let x = c.index-fillings-left.result in
    let b = c.args.block.now in
    let left = c.loop-left.left in
    let here = rw c.as_slice-fillings.ensures at c.index-fillings-left.is in
    let fit = at_item (Fits (length b.bytes)) b.fillings (left - 1) x (omega arith) here c.requires in
    let size = ap length c.loop-left.invariant.cells ∙ length-first_cells (drop left b.fillings) b.bytes (all_dropped (Fits (length b.bytes)) left b.fillings c.requires) in
    record { size = fit.0; inside = subst (λ n. x.0 + filling_size x.1 ≤ n) (sym size) fit.1 }

pub loop-left-preserved : goal.loop-left-preserved
loop-left-preserved c =
    let x = c.index-fillings-left.result in
    let b = c.args.block.now in
    let left = c.loop-left.left in
    let here = rw c.as_slice-fillings.ensures at c.index-fillings-left.is in
    record {
      within = omega arith;
      cells = c.in_ok-put_filling.ensures ∙ ap (placed_cells x.0 (filling_cells x.1)) c.loop-left.invariant.cells
          ∙ sym (ap (λ fs. first_cells fs b.bytes) (split_before b.fillings left x c.loop-left-test.true c.loop-left.invariant.within here));
    }

pub returns : goal.returns
returns c =
    let b = c.args.block.now in
    let none : c.loop-left.left ≡ 0 = omega arith in
    c.loop-left.invariant.cells ∙ ap (λ n. first_cells (drop n b.fillings) b.bytes) none
