use Rattle.std.proofs.Common.{sym, ◌∙◌}
use Rattle.std.proofs.lemmas.List.{at_drop_all}
use Rattle.new_intervals.specs.Cutting.{all_blocks}
use Rattle.new_intervals.proofs.Cuts.{blocks_are}
use Rattle.new_intervals.proofs.cutting.function_blocks.Goals as goal

pub returns : goal.returns
returns c =
    let m = c.args.module.now in
    let f = c.args.function.now in
    c.in_ok-made.ensures
    ∙ sym (at_drop_all (all_blocks m f c.loop-line.blocks) c.as_slice-line-items.result.now c.loop-line.line-index c.loop-line-test.false)
    ∙ c.loop-line.invariant.rest
    ∙ blocks_are m f
