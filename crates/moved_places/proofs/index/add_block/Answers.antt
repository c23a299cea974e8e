use Rattle.std.proofs.Common.{refl}
use Rattle.std.specs.Str.{bytes_eq}
use Rattle.indexmap.specs.IndexMap.{get}
use Rattle.moved_places.specs.Blocks.{place_kept}
use Rattle.moved_places.proofs.Indexing.{added}
use Rattle.moved_places.proofs.Lists.{on_ok}
use Rattle.rewrite.specs.Places.{code_place}
use Rattle.sym_expr.specs.declared.program.CodeBlock.{CodeBlock}
use Rattle.moved_places.proofs.index.add_block.Goals as goal

pub returns : goal.returns
returns c =
    let b = c.args.block.now in
    on_ok c.add_first.result (λ put q. added place_kept (code_place c.args.module.now) (λ (x : CodeBlock). bytes_eq x.id q) b c.in_ok-moves.moves (get bytes_eq c.args.blocks.now q) (get bytes_eq c.add_first.new.map q) (bytes_eq b.id q) refl c.in_ok-moves.ensures (put q)) c.add_first.ensures
