use Rattle.std.proofs.Common.{take}
use Rattle.std.specs.List.{filter_map}
use Rattle.std.specs.Str.{bytes_eq}
use Rattle.moved_places.specs.Kept.{block_among, kept_block}
use Rattle.moved_places.proofs.Indexing.{filtered_further, step}
use Rattle.rewrite.specs.Places.{code_place}
use Rattle.sym_expr.specs.declared.program.CodeBlock.{CodeBlock}
use Rattle.sym_expr.specs.Points.{code_of}
use Rattle.moved_places.proofs.index.add_stretch.Goals as goal

pub loop-piece-preserved : goal.loop-piece-preserved
loop-piece-preserved c = λ q.
    let items = c.as_slice-piece-items.result.now in
    let i = c.loop-piece.piece-index in
    let m = c.args.module.now in
    step (kept_block c.args.blocks.now q) (kept_block c.loop-piece.blocks q) (kept_block c.add_piece.new.blocks q) (block_among m (filter_map code_of (take i items)) q) _ _
    (c.loop-piece.invariant q) (c.in_ok-add_piece.ensures q)
    (filtered_further (code_place m) (λ (b : CodeBlock). bytes_eq b.id q) code_of items i c.piece-item.result c.loop-piece-test.true c.piece-item.is)
