use Rattle.std.proofs.Common.{sym}
use Rattle.std.proofs.lemmas.Bool.{lt-ltb, le-ltb}
use Rattle.ir_check.specs.Spans.{long_in}
use Rattle.ir_check.proofs.First.{found_item, none_item, kept_if, dropped_if}
use Rattle.ir_check.proofs.structure.long_interval.Goals as goal

pub returns-then-span : goal.returns-then-span
returns-then-span c = found_item long_in c.args.spans.now c.loop-span.span-index c.span-item.result _ c.loop-span.invariant c.loop-span-test.true c.span-item.is (sym (kept_if _ _ (lt-ltb _ _ c.if-span.true)))

pub loop-span-preserved : goal.loop-span-preserved
loop-span-preserved c = none_item long_in c.args.spans.now c.loop-span.span-index c.span-item.result c.loop-span.invariant c.loop-span-test.true c.span-item.is (sym (dropped_if _ _ (le-ltb _ _ c.if-span.false)))
