use Rattle.std.proofs.Common.{◌≡◌, take}
use Rattle.ir_check.specs.AtGraph.{interval_ids}
use Rattle.ir_check.specs.Spans.{AreIntervals}
use Rattle.ir_check.proofs.loaded.intervals_of.Given as goal

abbrev pub invariant-loop-id : goal.invariant-loop-id
invariant-loop-id l = (l.intervals.items ≡ interval_ids l.graph (take l.id-index l.sections)) × AreIntervals l.graph l.intervals.items
