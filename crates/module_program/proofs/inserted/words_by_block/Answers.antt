use Rattle.std.proofs.Common.{◌++◌, [], ◌∷◌, sym, ap, ◌∙◌}
use Rattle.module_program.specs.Knowing.{HasGoodWords, words_among}
use Rattle.module_program.proofs.Inserts.{words_more}
use Rattle.module_program.proofs.Sections.{holds_of}
use Rattle.module_program.proofs.inserted.words_by_block.Goals as goal

pub add_insert-requires-clause-good : goal.add_insert-requires-clause-good
add_insert-requires-clause-good c =
    let m = c.args.context.now.module in
    let p = c.args.context.now.patches.now in
    holds_of (HasGoodWords m p) p.inserts c.as_slice-insert-items.result.now c.loop-insert.insert-index c.insert-item.result c.as_slice-insert-items.ensures c.requires.good c.loop-insert-test.true c.insert-item.is

pub loop-insert-preserved : goal.loop-insert-preserved
loop-insert-preserved c =
    let m = c.args.context.now.module in
    let p = c.args.context.now.patches.now in
    let i = c.insert-item.result in
    λ id. c.in_ok-add_insert.ensures id ∙ ap (λ l. l ++ words_among m p (i ∷ []) id) (c.loop-insert.invariant id)
    ∙ sym (words_more m p c.as_slice-insert-items.result.now c.loop-insert.insert-index i id c.loop-insert-test.true c.insert-item.is)
