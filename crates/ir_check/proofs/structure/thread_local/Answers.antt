use Rattle.std.proofs.Common.{sym, ◌∙◌, arith}
use Rattle.ir_check.specs.AtGraph.{thread_local_at}
use Rattle.ir_check.proofs.First.{found_at, none_more, kept_if, dropped_if}
use Rattle.ir_check.proofs.structure.thread_local.Goals as goal

pub loop-id-preserved : goal.loop-id-preserved
loop-id-preserved c = none_more (thread_local_at c.args.graph.now) c.args.sections.now c.loop-id.id-index _ c.loop-id.invariant (omega arith) (dropped_if _ _ (sym c.is_thread_local.ensures ∙ c.if-is_thread_local.false))

pub returns-then-is_thread_local : goal.returns-then-is_thread_local
returns-then-is_thread_local c = rw c.section.ensures.value (found_at (thread_local_at c.args.graph.now) c.args.sections.now c.loop-id.id-index _ _ c.loop-id.invariant (omega arith) (kept_if _ _ (sym c.is_thread_local.ensures ∙ c.if-is_thread_local.true)))
