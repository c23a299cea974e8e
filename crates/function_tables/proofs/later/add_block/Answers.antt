use Rattle.std.proofs.Common.{List, ℕ, refl, ap, sym, ◌∙◌}
use Rattle.std.specs.Option.{option_or}
use Rattle.std.specs.Str.{bytes_eq}
use Rattle.edge_repair.specs.Edges.{later_parts}
use Rattle.indexmap.specs.IndexMap.{get}
use Rattle.function_tables.proofs.Kept.{added_same}
use Rattle.function_tables.proofs.Lists.{on_ok}
use Rattle.sym_expr.specs.declared.program.CodeBlock.{CodeBlock}
use Rattle.function_tables.proofs.later.add_block.Goals as goal

pub returns : goal.returns
returns c =
    let b = c.args.block.now in
    on_ok c.add_first.result (λ put q. added_same (later_parts c.args.module.now) (λ (x : CodeBlock). bytes_eq x.id q) b c.in_ok-ids.ids (get bytes_eq c.args.parts.now q) (get bytes_eq c.add_first.new.parts q) (bytes_eq b.id q) refl c.in_ok-ids.ensures (put q)) c.add_first.ensures
