use Rattle.std.proofs.Common.{ℕ, List, ◌++◌, [], sym, ap, ◌∙◌}
use Rattle.std.specs.Option.{unwrap_or}
use Rattle.std.specs.Str.{bytes_eq}
use Rattle.indexmap.specs.IndexMap.{get}
use Rattle.moved_modules.specs.Moved.{is_patched, moved_block}
use Rattle.moved_modules.proofs.Kept.{made, flat_made_more}
use Rattle.sym_expr.specs.declared.program.Piece.{Piece}
use Rattle.sym_expr.specs.declared.program.Stretch.{Stretch}
use Rattle.sym_expr.specs.Points.{code_of}
use Rattle.moved_modules.proofs.blocks.program_blocks.Goals as goal

abbrev pieces : Stretch → List Piece
pieces s = s.pieces

pub loop-stretch-preserved : goal.loop-stretch-preserved
loop-stretch-preserved c =
    let f = moved_block c.args.module.now (λ (id : List ℕ). unwrap_or (get bytes_eq c.args.targets.now id) []) in
    let items = c.as_slice-stretch-items.result.now in
    let i = c.loop-stretch.stretch-index in
    let x = c.stretch-item.result in
    c.in_ok-push_stretch.ensures
    ∙ ap (λ l. l ++ made f is_patched code_of x.pieces) c.loop-stretch.invariant
    ∙ sym (flat_made_more f is_patched code_of pieces items i x c.loop-stretch-test.true c.stretch-item.is)
