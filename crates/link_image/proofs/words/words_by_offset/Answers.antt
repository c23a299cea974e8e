use Rattle.std.proofs.Common.{◌∙◌, sym, ap, ◌++◌, cond, eqb, ◌∷◌, []}
use Rattle.link_image.proofs.AllWords.{inserted_at_more}
use Rattle.link_image.proofs.words.words_by_offset.Goals as goal

pub loop-offset-preserved : goal.loop-offset-preserved
loop-offset-preserved c =
    let x = c.loop-offset-item.result in
    λ offset. c.in_ok-add_word.ensures offset ∙ ap (λ l. l ++ cond (eqb offset x.0) (x.1 ∷ []) []) (c.loop-offset.invariant offset)
    ∙ sym (inserted_at_more offset c.args.inserted.now c.loop-offset.offset-index x c.loop-offset-test.true c.loop-offset-item.is)
