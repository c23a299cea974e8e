use Rattle.std.proofs.Common.{◌++◌, [], ◌∷◌, sym, ap, ◌∙◌}
use Rattle.new_edges.specs.Knowing.{branches_among}
use Rattle.new_edges.proofs.Inserts.{inserts_more}
use Rattle.new_edges.proofs.inserted.branches_by_block.Goals as goal

pub loop-insert-preserved : goal.loop-insert-preserved
loop-insert-preserved c =
    let m = c.args.context.now.module.now in
    let p = c.args.context.now.patches.now in
    let i = c.insert-item.result in
    λ id. c.in_ok-add_insert.ensures id ∙ ap (λ l. l ++ branches_among m p (i ∷ []) id) (c.loop-insert.invariant id)
    ∙ sym (inserts_more m p c.as_slice-insert-items.result.now c.loop-insert.insert-index i id c.loop-insert-test.true c.insert-item.is)
