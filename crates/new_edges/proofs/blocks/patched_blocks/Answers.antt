use Rattle.std.proofs.Common.{List, ◌++◌, map, sym, ap, ◌∙◌}
use Rattle.std.specs.List.{filter_map}
use Rattle.new_edges.proofs.Lists.{mapped_flat_more}
use Rattle.new_edges.proofs.blocks.patched_blocks.Goals as goal
use Rattle.new_edges.specs.Blocks.{patched_block}
use Rattle.sym_expr.specs.declared.program.Piece.{Piece}
use Rattle.sym_expr.specs.declared.program.Stretch.{Stretch}
use Rattle.sym_expr.specs.Points.{code_of}

abbrev pieces : Stretch → List Piece
pieces s = s.pieces

pub loop-stretch-preserved : goal.loop-stretch-preserved
loop-stretch-preserved c =
    let items = c.as_slice-stretch-items.result.now in
    let x = c.stretch-item.result in
    c.in_ok-push_stretch.ensures
    ∙ ap (λ l. l ++ map patched_block (filter_map code_of x.pieces)) c.loop-stretch.invariant
    ∙ sym (mapped_flat_more patched_block code_of pieces items c.loop-stretch.stretch-index x c.loop-stretch-test.true c.stretch-item.is)
