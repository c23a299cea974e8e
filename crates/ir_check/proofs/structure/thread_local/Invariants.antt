use Rattle.std.proofs.Common.{◌≡◌, take, None}
use Rattle.ir_check.specs.AtGraph.{thread_local_at}
use Rattle.ir_check.specs.Spans.{first_in}
use Rattle.ir_check.proofs.structure.thread_local.Given as goal

abbrev pub invariant-loop-id : goal.invariant-loop-id
invariant-loop-id l = first_in (thread_local_at l.graph) (take l.id-index l.sections) ≡ None
