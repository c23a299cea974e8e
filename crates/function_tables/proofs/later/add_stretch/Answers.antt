use Rattle.std.proofs.Common.{take}
use Rattle.std.specs.List.{filter_map}
use Rattle.std.specs.Str.{bytes_eq}
use Rattle.edge_repair.specs.Edges.{later_parts}
use Rattle.indexmap.specs.IndexMap.{get}
use Rattle.function_tables.specs.Later.{parts_among}
use Rattle.function_tables.proofs.Kept.{filtered_further, step}
use Rattle.sym_expr.specs.declared.program.CodeBlock.{CodeBlock}
use Rattle.sym_expr.specs.Points.{code_of}
use Rattle.function_tables.proofs.later.add_stretch.Goals as goal

pub loop-piece-preserved : goal.loop-piece-preserved
loop-piece-preserved c = λ q.
    let items = c.as_slice-piece-items.result.now in
    let i = c.loop-piece.piece-index in
    let m = c.args.module.now in
    step (get bytes_eq c.args.parts.now q) (get bytes_eq c.loop-piece.parts q) (get bytes_eq c.add_piece.new.parts q) (parts_among m (filter_map code_of (take i items)) q) _ _
    (c.loop-piece.invariant q) (c.in_ok-add_piece.ensures q)
    (filtered_further (later_parts m) (λ (b : CodeBlock). bytes_eq b.id q) code_of items i c.piece-item.result c.loop-piece-test.true c.piece-item.is)
