use Rattle.std.proofs.Common.{rules}
use Rattle.a64_inst.proofs.Joining.{Joins-at, Joins-fits}
use Rattle.a64_inst.proofs.words.joined.Goals as goal

pub overflow_add-word : goal.overflow_add-word
overflow_add-word c =
    let after = Joins-at c.args.pieces.now c.loop-width.width-index c.loop-width.place c.loop-width.word _ c.loop-width-test.true c.loop-width.invariant in
    let fits = Joins-fits _ _ _ _ after in
    search rules

pub loop-width-preserved : goal.loop-width-preserved
loop-width-preserved c =
    Joins-at c.args.pieces.now c.loop-width.width-index c.loop-width.place c.loop-width.word _ c.loop-width-test.true c.loop-width.invariant
