use Rattle.std.proofs.Common.{◌++◌, [], ◌∷◌, sym, ap, ◌∙◌}
use Rattle.std.proofs.lemmas.List.{take_all}
use Rattle.moved_modules.specs.Targets.{targets_among}
use Rattle.moved_modules.proofs.Named.{all_targets, targets_more}
use Rattle.moved_modules.proofs.targets.targets_by_block.Goals as goal

pub loop-insert-preserved : goal.loop-insert-preserved
loop-insert-preserved c =
    let i = c.insert-item.result in
    λ id. c.in_ok-add_insert.ensures id ∙ ap (λ l. l ++ targets_among (i ∷ []) id) (c.loop-insert.invariant id)
    ∙ sym (targets_more c.as_slice-insert-items.result.now c.loop-insert.insert-index i id c.loop-insert-test.true c.insert-item.is)

pub returns : goal.returns
returns c = λ id. c.loop-insert.invariant id
    ∙ ap (λ l. targets_among l id) (take_all c.loop-insert.insert-index c.as_slice-insert-items.result.now c.loop-insert-test.false ∙ c.as_slice-insert-items.ensures)
    ∙ all_targets c.args.patches.now id
