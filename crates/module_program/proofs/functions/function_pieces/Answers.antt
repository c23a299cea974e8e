use Rattle.std.proofs.Common.{sym, ◌∙◌}
use Rattle.std.proofs.lemmas.List.{at_drop_all}
use Rattle.module_program.specs.Building.{all_pieces}
use Rattle.module_program.proofs.Cuts.{pieces_are}
use Rattle.module_program.proofs.functions.function_pieces.Goals as goal

pub returns : goal.returns
returns c =
    let m = c.args.context.now.module in
    let p = c.args.context.now.patches.now in
    let f = c.args.function.now in
    c.in_ok-pieces.ensures
    ∙ sym (at_drop_all (all_pieces m p f c.loop-line.blocks) c.as_slice-line-items.result.now c.loop-line.line-index c.loop-line-test.false)
    ∙ c.loop-line.invariant.rest
    ∙ pieces_are m p f
