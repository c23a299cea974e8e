use Rattle.std.proofs.Common.{length}
use Rattle.gt_read.proofs.PackedRuns.{Unpacks}
use Rattle.gt_read.proofs.packed.take_packed.Given as goal

-- the numbers before the rest are taken
abbrev pub invariant-loop-rest : goal.invariant-loop-rest
invariant-loop-rest l = Unpacks l.initial.slot l.bytes l.rest l.slot

abbrev pub decreases-loop-rest : goal.decreases-loop-rest
decreases-loop-rest l = length l.rest
