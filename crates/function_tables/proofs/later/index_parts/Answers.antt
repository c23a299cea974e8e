use Rattle.std.proofs.Common.{take, ap, ◌∙◌, sym}
use Rattle.std.specs.List.{filter_map, flat_map}
use Rattle.std.specs.Option.{option_or}
use Rattle.std.specs.Str.{bytes_eq}
use Rattle.edge_repair.specs.Edges.{later_parts}
use Rattle.function_tables.specs.Later.{parts_among}
use Rattle.function_tables.proofs.Kept.{both_further}
use Rattle.sym_expr.specs.declared.program.CodeBlock.{CodeBlock}
use Rattle.sym_expr.specs.declared.program.Stretch.{Stretch}
use Rattle.sym_expr.specs.Points.{code_of}
use Rattle.function_tables.proofs.later.index_parts.Goals as goal

pub loop-stretch-preserved : goal.loop-stretch-preserved
loop-stretch-preserved c = λ q.
    let items = c.as_slice-stretch-items.result.now in
    let i = c.loop-stretch.stretch-index in
    let m = c.args.module.now in
    let s = c.stretch-item.result in
    c.in_ok-add_stretch.ensures q
    ∙ ap (λ o. option_or o (parts_among m (filter_map code_of s.pieces) q)) (c.loop-stretch.invariant q)
    ∙ sym (both_further (later_parts m) (λ (b : CodeBlock). bytes_eq b.id q) code_of (λ (r : Stretch). r.pieces) items i s c.loop-stretch-test.true c.stretch-item.is)
