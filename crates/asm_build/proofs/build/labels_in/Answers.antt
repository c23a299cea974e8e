use Rattle.asm_build.proofs.Built.{labels_next}
use Rattle.asm_build.proofs.build.labels_in.Goals as goal

pub loop-line-preserved : goal.loop-line-preserved
loop-line-preserved c =
    labels_next c.args.lines.now c.loop-line.labels c.add_label.new.labels c.loop-line.place c.in_ok-place.place c.loop-line.line-index c.line-item.result c.loop-line-test.true c.line-item.is
    c.loop-line.invariant c.in_ok-add_label.ensures c.in_ok-place.ensures
