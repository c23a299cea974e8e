use Rattle.ir_check.specs.Spans.{overlap_in}
use Rattle.ir_check.proofs.First.{found_item, none_item}
use Rattle.ir_check.proofs.structure.overlap.Goals as goal

pub returns-in-Some : goal.returns-in-Some
returns-in-Some c = found_item overlap_in c.args.spans.now c.loop-span.span-index c.span-item.result _ c.loop-span.invariant c.loop-span-test.true c.span-item.is c.in-Some.ensures

pub loop-span-preserved : goal.loop-span-preserved
loop-span-preserved c = none_item overlap_in c.args.spans.now c.loop-span.span-index c.span-item.result c.loop-span.invariant c.loop-span-test.true c.span-item.is c.in_default.ensures
