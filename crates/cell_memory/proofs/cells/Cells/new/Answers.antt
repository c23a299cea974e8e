use Rattle.std.proofs.Common.{◌≡◌, ◌∙◌, length, replicate, ap, arith}
use Rattle.cell_memory.specs.Shown.{cells_from, kept_in}
use Rattle.cell_memory.proofs.Changes.{byte_cells}
use Rattle.cell_memory.proofs.cells.Cells.new.Goals as goal

pub returns : goal.returns
returns c =
    let kept = kept_in (record { bytes = c.args.bytes; marks = c.in_ok-marks.marks; wholes = c.new.result }) in
    let count : c.len.result ≡ length c.args.bytes.items = omega arith in
    ap (cells_from kept 0 c.args.bytes.items) (c.in_ok-marks.ensures.items_if_clones_equal (λ y e. e) ∙ ap (λ n. replicate n 0) count) ∙ byte_cells kept 0 c.args.bytes.items
