use Rattle.std.proofs.Common.{◌≡◌, take, map}
use Rattle.ir_check.specs.Spans.{span_of}
use Rattle.ir_check.proofs.span.Span.all.Given as goal

abbrev pub invariant-loop-id : goal.invariant-loop-id
invariant-loop-id l = l.spans.items ≡ map (span_of l.graph) (take l.id-index l.ids)
